-- Binary operators, level by level: PHP manual, Operator Precedence.
use Rattle.std.specs.Prelude.{ℕ, zero, suc, Bool, false, true, List, [], ◌∷◌, ◌++◌, length, Some, None, if◌then◌else◌, ◌==◌, nat_le}
use Rattle.hph_ast.specs.declared.token.Mark.TheVariants as m
use Rattle.hph_ast.specs.declared.operator.Binary.{Binary}
use Rattle.hph_ast.specs.declared.operator.Grouping.{Grouping}
use Rattle.hph_ast.specs.declared.operator.Grouping.TheVariants.{Left, Right, Alone}
use Rattle.hph_ast.specs.declared.expr.Expr.{Expr}
use Rattle.hph_ast.specs.declared.expr.Expr.TheVariants as e
use Rattle.hph_ast.specs.declared.expr.ClassReference.{ClassReference}
use Rattle.hph_ast.specs.Levels.{grouping, ternary_level, top, next}
use Rattle.hph_ast.specs.Places.{place, span, last_operand, last_expr, last_class}
use Rattle.hph_fexpr.specs.declared.form.Form.{Form}
use Rattle.hph_fexpr.specs.declared.form.Form.TheVariants.{Level}
use Rattle.hph_cursor.specs.Steps.{Parser, choose, ◌>>=◌, ◌>>◌, pure, sees, expect, take_token}
use Rattle.hph_cursor.specs.Next.{of_next, is_next, binary_of, operator_of, is_instance_of}
use Rattle.hph_fexpr.specs.Classes.{class_reference}
use Rattle.hph_fexpr.specs.Terms.{stopped, term}

module _ (below : Form → Parser Expr) where
  -- the operators of this level and the operands behind them
  unfoldable pub operands_from : ℕ → ℕ → List (Binary × Expr) → Parser (List (Binary × Expr))
  operands_from n zero found ts = Some (found, ts)
  operands_from n (suc turns) found ts =
      choose (of_next (operator_of n) ts) (Some (found, ts))
      (λ op. (take_token >> (below (Level (suc n)) >>= λ x. operands_from n turns (found ++ (op, x) ∷ []))) ts)

  unfoldable pub run : ℕ → Expr → Parser Expr
  run n x ts = (operands_from n (length ts) [] >>= λ os. pure (e.Run (span (place x) (last_operand (place x) os)) x os)) ts

  unfoldable pub pair : Expr → Binary → ℕ → Parser Expr
  pair x op n = take_token >> (below (Level n) >>= λ y. pure (e.Pair (span (place x) (place y)) op x y))

  abbrev pub grouped : ℕ → Expr → Binary → Grouping → Parser Expr
  grouped n x op Left = run n x
  grouped n x op Right = pair x op n
  grouped n x op Alone = pair x op (suc n)

  unfoldable pub shorts_from : ℕ → List Expr → Parser (List Expr)
  shorts_from zero found ts = Some (found, ts)
  shorts_from (suc n) found ts =
      if sees m.Question ts then
      (take_token >> (expect m.Colon >> (below (Level (suc ternary_level)) >>= λ y. shorts_from n (found ++ y ∷ [])))) ts
      else Some (found, ts)

  -- behind the question mark, at ":"
  unfoldable pub short : Expr → Parser Expr
  short x = take_token >> (below (Level (suc ternary_level)) >>= λ y. λ us. (shorts_from (length us) (y ∷ []) >>= λ ys.
      pure (e.ShortTernary (span (place x) (last_expr (place x) ys)) x ys)) us)

  -- behind the first branch
  unfoldable pub other_branch : Expr → Expr → Parser Expr
  other_branch x y = expect m.Colon >> (below (Level (suc ternary_level)) >>= λ z. pure (e.Ternary (span (place x) (place z)) x y z))

  -- behind the question mark
  unfoldable pub ternary : Expr → Parser Expr
  ternary x = below (Level 1) >>= other_branch x

  unfoldable pub questioned : Expr → Parser Expr
  questioned x = take_token >> λ us. if sees m.Colon us then short x us else ternary x us

  unfoldable pub classes_from : ℕ → List ClassReference → Parser (List ClassReference)
  classes_from zero found ts = Some (found, ts)
  classes_from (suc n) found ts =
      if is_next is_instance_of ts then (take_token >> (class_reference below >>= λ class. classes_from n (found ++ class ∷ []))) ts
      else Some (found, ts)

  unfoldable pub instances : Expr → Parser Expr
  instances x ts = (classes_from (length ts) [] >>= λ cs. pure (e.InstanceOf (span (place x) (last_class (place x) cs)) x cs)) ts

  -- the expression goes on with operators of this level
  unfoldable pub longer : ℕ → Expr → Parser Expr
  longer n x ts = choose (of_next binary_of ts)
      (if sees m.Question ts then questioned x ts else (if is_next is_instance_of ts then instances x ts else None))
      (λ op. grouped n x op (grouping op) ts)

  -- the levels below the second number, down to the first
  unfoldable pub climb : ℕ → ℕ → Expr → Parser Expr
  climb least zero x ts = stopped least x ts
  climb least (suc n) x ts =
      if nat_le least n then (if next ts == n then (longer n x >>= climb least n) ts else climb least n x ts)
      else stopped least x ts

  -- an expression; or, where an element may stand alone, what is only written
  unfoldable pub climbed : Bool → ℕ → ℕ → Parser Expr
  climbed alone links least = term links below alone >>= climb least top

  unfoldable pub one_level : ℕ → ℕ → Parser Expr
  one_level = climbed false

  unfoldable pub one_element : ℕ → Parser Expr
  one_element links = climbed true links 1
