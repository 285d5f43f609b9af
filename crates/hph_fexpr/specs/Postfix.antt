-- Steps, calls and members behind a primary.
use Rattle.std.specs.Prelude.{ℕ, zero, suc, ◌&&◌, List, [], ◌∷◌, ◌++◌, length, Option, Some, None, if◌then◌else◌}
use Rattle.hph_ast.specs.declared.token.Token.{Token}
use Rattle.hph_ast.specs.declared.token.Mark.TheVariants as m
use Rattle.hph_ast.specs.declared.expr.Expr.{Expr}
use Rattle.hph_ast.specs.declared.expr.Expr.TheVariants as e
use Rattle.hph_ast.specs.declared.expr.MemberName.{MemberName}
use Rattle.hph_ast.specs.declared.expr.Step.{Step}
use Rattle.hph_ast.specs.declared.expr.Step.TheVariants as s
use Rattle.hph_ast.specs.Places.{place, on, span, with_steps}
use Rattle.hph_ast.specs.Shapes.{is_read, is_callable, is_class_expression}
use Rattle.hph_fexpr.specs.declared.form.Form.{Form}
use Rattle.hph_fexpr.specs.declared.form.Form.TheVariants.{Level}
use Rattle.hph_fexpr.specs.declared.turn.Turn.{Turn}
use Rattle.hph_fexpr.specs.declared.turn.Turn.TheVariants.{Longer, Whole}
use Rattle.hph_cursor.specs.Steps.{Parser, ◌>>=◌, ◌>>◌, pure, sees, expect, take_token}
use Rattle.hph_fexpr.specs.Lists.{arguments}
use Rattle.hph_fexpr.specs.Classes.{by_expression, member, scoped}
use Rattle.hph_fexpr.specs.Primaries.{primary}

abbrev pub turned : (Expr → Parser Expr) → Turn → Parser Expr
turned go (Longer x) = go x
turned go (Whole x) = pure x

module _ (below : Form → Parser Expr) where
  -- behind "["
  unfoldable pub index : Token → Parser Step
  index o ts =
      if sees m.CloseBracket ts then (take_token >>= λ c. pure (s.Append (span (on o) (on c)))) ts
      else (below (Level 1) >>= λ x. expect m.CloseBracket >>= λ c. pure (s.Index (span (on o) (on c)) x)) ts

  -- indices and properties, and the name of a method where one follows, whose "(" is next then
  unfoldable pub steps_from : ℕ → List Step → Parser (List Step × Option MemberName)
  steps_from zero found ts = Some ((found, None), ts)
  steps_from (suc n) found ts =
      if sees m.OpenBracket ts then (take_token >>= λ o. index o >>= λ x. steps_from n (found ++ x ∷ [])) ts
      else (if sees m.Arrow ts then (take_token >>= λ t. member below >>= λ r. λ us.
      if sees m.OpenParen us then Some ((found, Some r.0), us)
      else steps_from n (found ++ s.Property (span (on t) r.1) r.0 ∷ []) us) ts
      else Some ((found, None), ts))

  unfoldable pub steps : Parser (List Step × Option MemberName)
  steps ts = steps_from (length ts) [] ts

  -- at "("
  unfoldable pub method_call : Expr → MemberName → Parser Expr
  method_call x name = take_token >> (arguments below >>= λ r. pure (e.MethodCall (span (place x) r.1) x name r.0))

  unfoldable pub dynamic_call : Expr → Parser Expr
  dynamic_call x = take_token >> (arguments below >>= λ r. pure (e.DynamicCall (span (place x) r.1) x r.0))

  -- a call or a member behind an expression with its steps
  unfoldable pub turn : Expr → Option MemberName → Parser Turn
  turn x (Some name) = λ ts. if is_read x then (method_call x name >>= λ y. pure (Longer y)) ts else None
  turn x None = λ ts.
      if sees m.OpenParen ts && (is_read x && is_callable x) then (dynamic_call x >>= λ y. pure (Longer y)) ts
      else (if sees m.DoubleColon ts && (is_read x && is_class_expression x) then
      (scoped below (by_expression x) >>= λ y. pure (Longer y)) ts
      else Some (Whole x, ts))

  -- steps, and a call or a member behind them
  unfoldable pub one_turn : Expr → Parser Turn
  one_turn x = steps >>= λ r. turn (with_steps x r.0) r.1

  -- steps, calls and members, as long as there are any: none where the turns end before the expression does
  unfoldable pub goes_on_from : ℕ → Expr → Parser Expr
  goes_on_from zero x ts = None
  goes_on_from (suc n) x ts = (one_turn x >>= turned (goes_on_from n)) ts

  -- each call and each member nests one deeper, so there are at most as many as the number
  unfoldable pub goes_on : ℕ → Expr → Parser Expr
  goes_on links x ts = goes_on_from (suc links) x ts

  unfoldable pub postfix : ℕ → Parser Expr
  postfix links = primary below >>= goes_on links
