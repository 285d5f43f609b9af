-- Strings with interpolations: PHP manual, Strings, Variable parsing.
use Rattle.std.specs.Prelude.{ℕ, zero, suc, List, [], ◌∷◌, ◌++◌, length, Option, Some, None, if◌then◌else◌}
use Rattle.hph_ast.specs.declared.token.At.{At}
use Rattle.hph_ast.specs.declared.token.Token.{Token}
use Rattle.hph_ast.specs.declared.token.Kind.{Kind}
use Rattle.hph_ast.specs.declared.token.Kind.TheVariants as k
use Rattle.hph_ast.specs.declared.token.Mark.TheVariants as m
use Rattle.hph_ast.specs.declared.expr.Expr.{Expr}
use Rattle.hph_ast.specs.declared.expr.Expr.TheVariants as e
use Rattle.hph_ast.specs.declared.expr.MemberName.TheVariants as n
use Rattle.hph_ast.specs.declared.expr.Step.TheVariants as s
use Rattle.hph_ast.specs.declared.expr.StringPart.{StringPart}
use Rattle.hph_ast.specs.declared.expr.StringPart.TheVariants as part
use Rattle.hph_ast.specs.Places.{on, span}
use Rattle.hph_fexpr.specs.declared.form.Form.{Form}
use Rattle.hph_fexpr.specs.declared.form.Form.TheVariants.{Level}
use Rattle.hph_cursor.specs.Steps.{Parser, choose, ◌>>=◌, ◌>>◌, pure, fail, sees, expect, take_token}
use Rattle.hph_cursor.specs.Next.{is_next, is_variable}

abbrev pub key_by : Token → Kind → Option Expr
key_by t (k.Name name) = Some (e.Text (on t) name)
key_by t (k.Variable name) = Some (e.Variable (on t) name)
key_by t (k.Int v) = Some (e.Int (on t) v)
key_by t _ = None

abbrev pub text_middle : Kind → Option (List ℕ)
text_middle (k.TextMiddle bytes) = Some bytes
text_middle _ = None

abbrev pub text_tail : Kind → Option (List ℕ)
text_tail (k.TextTail bytes) = Some bytes
text_tail _ = None

abbrev pub given : {A : Type 0} → Option A → Parser A
given found ts = choose found None (λ a. Some (a, ts))

-- the key in `$v[..]`
unfoldable pub key : Parser Expr
key = take_token >>= λ t. given (key_by t t.kind)

-- behind the key in `$v[..]`
abbrev pub index_of : Token → List ℕ → Token → Expr → Parser Expr
index_of t name o x = expect m.CloseBracket >>= λ c. pure
    (e.Path (span (on t) (on c)) (e.Variable (on t) name) (s.Index (span (on o) (on c)) x ∷ []))

-- behind `$v`, at "["
unfoldable pub simple_index : Token → List ℕ → Parser Expr
simple_index t name = take_token >>= λ o. key >>= index_of t name o

abbrev pub simple_property_by : Token → List ℕ → Token → Token → Kind → Parser Expr
simple_property_by t name o q (k.Name property) =
    pure (e.Path (span (on t) (on q)) (e.Variable (on t) name) (s.Property (span (on o) (on q)) (n.Named property) ∷ []))
simple_property_by t name o q _ = fail

-- behind `$v`, at "->"
unfoldable pub simple_property : Token → List ℕ → Parser Expr
simple_property t name = take_token >>= λ o. take_token >>= λ q. simple_property_by t name o q q.kind

unfoldable pub simple : Token → List ℕ → Parser Expr
simple t name ts =
    if sees m.OpenBracket ts then simple_index t name ts
    else (if sees m.Arrow ts then simple_property t name ts
    else Some (e.Variable (on t) name, ts))

module _ (below : Form → Parser Expr) where
  -- behind "{"
  unfoldable pub in_braces : Parser Expr
  in_braces ts = if is_next is_variable ts then (below (Level 1) >>= λ x. expect m.CloseBrace >> pure x) ts else None

  abbrev pub interpolation_by : Token → Kind → Parser Expr
  interpolation_by t (k.Variable name) = simple t name
  interpolation_by t (k.Mark m.OpenInterpolation) = in_braces
  interpolation_by t _ = fail

  unfoldable pub interpolation : Parser Expr
  interpolation = take_token >>= λ t. interpolation_by t t.kind

  -- interpolations and the pieces behind them, and the place where they end
  unfoldable pub parts_from : ℕ → List StringPart → Parser (List StringPart × At)
  parts_from zero found ts = None
  parts_from (suc n) found ts = (interpolation >>= λ x. take_token >>= λ t. λ us.
      choose (text_tail t.kind)
      (choose (text_middle t.kind) None (λ bytes. parts_from n (found ++ part.Interpolation x ∷ part.Piece (on t) bytes ∷ []) us))
      (λ bytes. Some ((found ++ part.Interpolation x ∷ part.Piece (on t) bytes ∷ [], on t), us))) ts

  -- behind the head
  unfoldable pub interpolated : Token → List ℕ → Parser Expr
  interpolated t bytes ts = (parts_from (length ts) (part.Piece (on t) bytes ∷ []) >>= λ r. pure (e.Interpolated (span (on t) r.1) r.0)) ts
