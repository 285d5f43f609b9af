-- Which expressions may be the value of a constant, a default, or an initial value: those without variable, static property,
-- assignment, call, `new`, print, isset, empty, exit or include. This project's own; the rule of PHP is narrower in places
-- and wider in others.
use Rattle.std.specs.Prelude.{Bool, true, false, ◌&&◌}
use Rattle.std.specs.List.{list_all}
use Rattle.hph_ast.specs.declared.operator.Prefix.{Prefix}
use Rattle.hph_ast.specs.declared.operator.Prefix.TheVariants as p
use Rattle.hph_ast.specs.declared.expr.Expr.{Expr}
use Rattle.hph_ast.specs.declared.expr.ClassReference.TheOpen.{ClassReference-F, Expr-F, Item-F, MemberName-F, Step-F, StringPart-F}
use Rattle.hph_ast.specs.declared.expr.ClassReference.TheFolds.{fold-Expr}

abbrev pub is_constant_prefix : Prefix → Bool
is_constant_prefix p.Print = false
is_constant_prefix (p.Include form) = false
is_constant_prefix _ = true

-- each is given whether its parts are constant
abbrev pub class_is_constant : ClassReference-F Bool Bool Bool Bool Bool Bool → Bool
class_is_constant (ClassReference-F.ByExpression at x) = x
class_is_constant _ = true

abbrev pub item_is_constant : Item-F Bool Bool Bool Bool Bool Bool → Bool
item_is_constant (Item-F.Plain at x) = x
item_is_constant (Item-F.Keyed at x y) = x && y
item_is_constant _ = false

abbrev pub member_is_constant : MemberName-F Bool Bool Bool Bool Bool Bool → Bool
member_is_constant (MemberName-F.Named name) = true
member_is_constant (MemberName-F.Computed x) = x

abbrev pub step_is_constant : Step-F Bool Bool Bool Bool Bool Bool → Bool
step_is_constant (Step-F.Index at x) = x
step_is_constant (Step-F.Append at) = false
step_is_constant (Step-F.Property at name) = name

abbrev pub part_is_constant : StringPart-F Bool Bool Bool Bool Bool Bool → Bool
part_is_constant (StringPart-F.Piece at bytes) = true
part_is_constant (StringPart-F.Interpolation x) = x

abbrev pub expr_is_constant : Expr-F Bool Bool Bool Bool Bool Bool → Bool
expr_is_constant (Expr-F.Int at n) = true
expr_is_constant (Expr-F.Text at bytes) = true
expr_is_constant (Expr-F.Interpolated at parts) = list_all (λ b. b) parts
expr_is_constant (Expr-F.Constant at name) = true
expr_is_constant (Expr-F.Directory at) = true
expr_is_constant (Expr-F.Array at form items) = list_all (λ b. b) items
expr_is_constant (Expr-F.ClassConstant at class name) = class
expr_is_constant (Expr-F.ClassName at class colons) = class
expr_is_constant (Expr-F.Paren at x) = x
expr_is_constant (Expr-F.Path at x steps) = x && list_all (λ b. b) steps
expr_is_constant (Expr-F.Prefix at op x) = is_constant_prefix op && x
expr_is_constant (Expr-F.InstanceOf at x classes) = x && list_all (λ b. b) classes
expr_is_constant (Expr-F.Run at x more) = x && list_all (λ o. o.1) more
expr_is_constant (Expr-F.Pair at op x y) = x && y
expr_is_constant (Expr-F.Ternary at x y z) = x && (y && z)
expr_is_constant (Expr-F.ShortTernary at x more) = x && list_all (λ b. b) more
expr_is_constant _ = false

unfoldable pub is_constant : Expr → Bool
is_constant = fold-Expr Bool Bool Bool Bool Bool Bool class_is_constant expr_is_constant item_is_constant member_is_constant step_is_constant part_is_constant
