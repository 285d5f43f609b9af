-- Lists in brackets: arguments and the paths of `isset`.
use Rattle.std.specs.Prelude.{ℕ, zero, suc, Bool, ◌&&◌, List, [], ◌∷◌, ◌++◌, length, Some, None, if◌then◌else◌}
use Rattle.hph_ast.specs.declared.token.At.{At}
use Rattle.hph_ast.specs.declared.token.Mark.TheVariants as m
use Rattle.hph_ast.specs.declared.expr.Expr.{Expr}
use Rattle.hph_ast.specs.declared.expr.Expr.TheVariants as e
use Rattle.hph_ast.specs.Places.{place, on, span}
use Rattle.hph_ast.specs.Shapes.{is_read}
use Rattle.hph_fexpr.specs.declared.form.Form.{Form}
use Rattle.hph_fexpr.specs.declared.form.Form.TheVariants.{Level, Postfix}
use Rattle.hph_cursor.specs.Steps.{Parser, choose, ◌>>=◌, ◌>>◌, pure, pure_if, sees, expect, take_token}
use Rattle.hph_cursor.specs.Next.{argument_name}

-- The parser of what is nested one deeper.
module _ (below : Form → Parser Expr) where
  -- at NAME ":"
  unfoldable pub named_argument : List ℕ → Parser Expr
  named_argument name = take_token >>= λ t. take_token >> (below (Level 1) >>= λ x. pure (e.NamedArgument (span (on t) (place x)) name x))

  unfoldable pub argument : Parser Expr
  argument ts = choose (argument_name ts) (below (Level 1) ts) (λ name. named_argument name ts)

  -- behind "(", and the place where they end
  unfoldable pub arguments_from : ℕ → List Expr → Parser (List Expr × At)
  arguments_from zero found ts = None
  arguments_from (suc n) found ts =
      if sees m.CloseParen ts then (take_token >>= λ c. pure (found, on c)) ts
      else (argument >>= λ x. λ us.
      if sees m.Comma us then (take_token >> arguments_from n (found ++ x ∷ [])) us
      else (expect m.CloseParen >>= λ c. pure (found ++ x ∷ [], on c)) us) ts

  unfoldable pub arguments : Parser (List Expr × At)
  arguments ts = arguments_from (length ts) [] ts

  -- arguments or nothing, and the place where they end
  unfoldable pub maybe_arguments : At → Parser (List Expr × At)
  maybe_arguments at ts = if sees m.OpenParen ts then (take_token >> arguments) ts else Some (([], at), ts)

  -- a path that is read and passes the test
  unfoldable pub tested_path : (Expr → Bool) → Parser Expr
  tested_path test = below Postfix >>= λ x. pure_if (is_read x && test x) x

  -- behind "(", and the place where they end
  unfoldable pub paths_from : (Expr → Bool) → ℕ → List Expr → Parser (List Expr × At)
  paths_from test zero found ts = None
  paths_from test (suc n) found ts = (tested_path test >>= λ x. λ us.
      if sees m.Comma us then (take_token >> λ vs.
      if sees m.CloseParen vs then (take_token >>= λ c. pure (found ++ x ∷ [], on c)) vs
      else paths_from test n (found ++ x ∷ []) vs) us
      else (expect m.CloseParen >>= λ c. pure (found ++ x ∷ [], on c)) us) ts

  unfoldable pub paths : (Expr → Bool) → Parser (List Expr × At)
  paths test ts = paths_from test (length ts) [] ts
