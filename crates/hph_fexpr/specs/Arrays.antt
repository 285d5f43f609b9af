-- Elements of arrays, and those of a destructuring, among which may be holes.
use Rattle.std.specs.Prelude.{ℕ, zero, suc, Bool, true, false, List, [], ◌∷◌, ◌++◌, ◌||◌, length, Some, None, if◌then◌else◌}
use Rattle.hph_ast.specs.declared.token.Mark.{Mark}
use Rattle.hph_ast.specs.declared.token.Mark.TheVariants as m
use Rattle.hph_ast.specs.declared.expr.Expr.{Expr}
use Rattle.hph_ast.specs.declared.expr.Item.{Item}
use Rattle.hph_ast.specs.declared.expr.Item.TheVariants as item
use Rattle.hph_ast.specs.Places.{place, on, span}
use Rattle.hph_ast.specs.Shapes.{is_source, is_target, is_written_only}
use Rattle.hph_fexpr.specs.declared.form.Form.{Form}
use Rattle.hph_fexpr.specs.declared.form.Form.TheVariants.{Postfix, Element}
use Rattle.hph_fexpr.specs.declared.elements.Elements.{Elements}
use Rattle.hph_cursor.specs.Steps.{Parser, ◌>>=◌, ◌>>◌, pure, pure_if, sees, expect, take_token}
use Rattle.hph_cursor.specs.Next.{is_next, is_ampersand}

module _ (below : Form → Parser Expr) where
  -- a path behind `&`
  unfoldable pub source : Parser Expr
  source = below Postfix >>= λ x. pure_if (is_source x) x

  unfoldable pub reference : Parser Item
  reference = take_token >>= λ t. source >>= λ x. pure (item.Reference (span (on t) (place x)) x)

  unfoldable pub keyed_reference : Expr → Parser Item
  keyed_reference x = take_token >>= λ q. source >>= λ y. pure (item.KeyedReference (span (place x) (place y)) x y q.start)

  -- behind the key and "=>"
  unfoldable pub keyed : Expr → Parser Item
  keyed x ts =
      if is_next is_ampersand ts then keyed_reference x ts
      else (below Element >>= λ y. pure (item.Keyed (span (place x) (place y)) x y)) ts

  -- at "=>", behind the key, which is read
  unfoldable pub keyed_by : Expr → Parser Item
  keyed_by x ts = if is_written_only x then None else (take_token >> keyed x) ts

  unfoldable pub valued : Parser Item
  valued = below Element >>= λ x. λ us. if sees m.DoubleArrow us then keyed_by x us else Some (item.Plain (place x) x, us)

  unfoldable pub element : Parser Item
  element ts = if is_next is_ampersand ts then reference ts else valued ts

  -- behind the bracket that opens, with what was found and whether that stands in a destructuring alone
  unfoldable pub elements_from : Mark → ℕ → List Item → Bool → Parser Elements
  elements_from closing zero found targets ts = None
  elements_from closing (suc n) found targets ts =
      if sees closing ts then (take_token >>= λ c. pure (record { items = found; targets = targets; close = on c })) ts
      else (if sees m.Comma ts then (take_token >>= λ t. elements_from closing n (found ++ item.Hole (on t) ∷ []) true) ts
      else (element >>= λ x. λ us.
      if sees m.Comma us then (take_token >> elements_from closing n (found ++ x ∷ []) (targets || is_target x)) us
      else (expect closing >>= λ c. pure (record { items = found ++ x ∷ []; targets = targets || is_target x; close = on c })) us) ts)

  unfoldable pub elements : Mark → Parser Elements
  elements closing ts = elements_from closing (length ts) [] false ts
