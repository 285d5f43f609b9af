-- How deep a tree is nested: 1 for a leaf, and for a node 1 more than the greatest of its parts. Lists of arguments, steps
-- and branches are no nodes, nor are the constants, properties and variables of a declaration. This project's own.
use Rattle.std.specs.Prelude.{ℕ, suc, max, List, [], ◌∷◌}
use Rattle.hph_ast.specs.declared.expr.Expr.{Expr}
use Rattle.hph_ast.specs.declared.expr.ClassReference.{ClassReference}
use Rattle.hph_ast.specs.declared.expr.Item.{Item}
use Rattle.hph_ast.specs.declared.expr.MemberName.{MemberName}
use Rattle.hph_ast.specs.declared.expr.Step.{Step}
use Rattle.hph_ast.specs.declared.expr.StringPart.{StringPart}
use Rattle.hph_ast.specs.declared.expr.ClassReference.TheOpen.{ClassReference-F, Expr-F, Item-F, MemberName-F, Step-F, StringPart-F}
use Rattle.hph_ast.specs.declared.expr.ClassReference.TheFolds.{fold-ClassReference, fold-Expr, fold-Item, fold-MemberName, fold-Step, fold-StringPart}

abbrev pub greatest : {A : Type 0} → (A → ℕ) → List A → ℕ
greatest f [] = 0
greatest f (x ∷ xs) = max (f x) (greatest f xs)

abbrev pub greatest_of : List ℕ → ℕ
greatest_of ns = greatest (λ n. n) ns

-- each is given the nesting of its parts
abbrev pub class_nesting_by : ClassReference-F ℕ ℕ ℕ ℕ ℕ ℕ → ℕ
class_nesting_by (ClassReference-F.ByExpression at x) = suc x
class_nesting_by _ = 1

abbrev pub item_nesting_by : Item-F ℕ ℕ ℕ ℕ ℕ ℕ → ℕ
item_nesting_by (Item-F.Plain at x) = suc x
item_nesting_by (Item-F.Keyed at x y) = suc (max x y)
item_nesting_by (Item-F.Reference at x) = suc x
item_nesting_by (Item-F.KeyedReference at x y ampersand) = suc (max x y)
item_nesting_by (Item-F.Hole at) = 1

-- the name of a member, a step and a piece of a string are no nodes of their own
abbrev pub member_nesting_by : MemberName-F ℕ ℕ ℕ ℕ ℕ ℕ → ℕ
member_nesting_by (MemberName-F.Named name) = 0
member_nesting_by (MemberName-F.Computed x) = x

abbrev pub step_nesting_by : Step-F ℕ ℕ ℕ ℕ ℕ ℕ → ℕ
step_nesting_by (Step-F.Index at x) = x
step_nesting_by (Step-F.Append at) = 0
step_nesting_by (Step-F.Property at name) = name

abbrev pub part_nesting_by : StringPart-F ℕ ℕ ℕ ℕ ℕ ℕ → ℕ
part_nesting_by (StringPart-F.Piece at bytes) = 0
part_nesting_by (StringPart-F.Interpolation x) = x

abbrev pub nesting_by : Expr-F ℕ ℕ ℕ ℕ ℕ ℕ → ℕ
nesting_by (Expr-F.Int at value) = 1
nesting_by (Expr-F.Text at bytes) = 1
nesting_by (Expr-F.Interpolated at parts) = suc (greatest_of parts)
nesting_by (Expr-F.Variable at name) = 1
nesting_by (Expr-F.Constant at name) = 1
nesting_by (Expr-F.Directory at) = 1
nesting_by (Expr-F.Array at form items) = suc (greatest_of items)
nesting_by (Expr-F.Call at name xs) = suc (greatest_of xs)
nesting_by (Expr-F.DynamicCall at x xs) = suc (max x (greatest_of xs))
nesting_by (Expr-F.StaticCall at class name xs) = suc (max class (max name (greatest_of xs)))
nesting_by (Expr-F.MethodCall at x name xs) = suc (max x (max name (greatest_of xs)))
nesting_by (Expr-F.New at class xs) = suc (max class (greatest_of xs))
nesting_by (Expr-F.ClassConstant at class name) = suc class
nesting_by (Expr-F.ClassName at class colons) = suc class
nesting_by (Expr-F.StaticProperty at class name) = suc class
nesting_by (Expr-F.Paren at x) = suc x
nesting_by (Expr-F.Isset at xs) = suc (greatest_of xs)
nesting_by (Expr-F.Empty at x) = suc x
nesting_by (Expr-F.Exit at) = 1
nesting_by (Expr-F.ExitWith at x) = suc x
nesting_by (Expr-F.Path at x steps) = suc (max x (greatest_of steps))
nesting_by (Expr-F.Update at form x) = suc x
nesting_by (Expr-F.Prefix at op x) = suc x
nesting_by (Expr-F.InstanceOf at x classes) = suc (max x (greatest_of classes))
nesting_by (Expr-F.Run at x more) = suc (max x (greatest (λ o. o.1) more))
nesting_by (Expr-F.Pair at op x y) = suc (max x y)
nesting_by (Expr-F.Ternary at x y z) = suc (max x (max y z))
nesting_by (Expr-F.ShortTernary at x more) = suc (max x (greatest_of more))
nesting_by (Expr-F.Assign at op x y) = suc (max x y)
nesting_by (Expr-F.AssignReference at x y ampersand) = suc (max x y)
nesting_by (Expr-F.Destructure at items x) = suc (max (greatest_of items) x)
nesting_by (Expr-F.NamedArgument at name x) = suc x

unfoldable pub nesting : Expr → ℕ
nesting = fold-Expr ℕ ℕ ℕ ℕ ℕ ℕ class_nesting_by nesting_by item_nesting_by member_nesting_by step_nesting_by part_nesting_by

unfoldable pub class_nesting : ClassReference → ℕ
class_nesting = fold-ClassReference ℕ ℕ ℕ ℕ ℕ ℕ class_nesting_by nesting_by item_nesting_by member_nesting_by step_nesting_by part_nesting_by

unfoldable pub item_nesting : Item → ℕ
item_nesting = fold-Item ℕ ℕ ℕ ℕ ℕ ℕ class_nesting_by nesting_by item_nesting_by member_nesting_by step_nesting_by part_nesting_by

unfoldable pub member_nesting : MemberName → ℕ
member_nesting = fold-MemberName ℕ ℕ ℕ ℕ ℕ ℕ class_nesting_by nesting_by item_nesting_by member_nesting_by step_nesting_by part_nesting_by

unfoldable pub step_nesting : Step → ℕ
step_nesting = fold-Step ℕ ℕ ℕ ℕ ℕ ℕ class_nesting_by nesting_by item_nesting_by member_nesting_by step_nesting_by part_nesting_by

unfoldable pub part_nesting : StringPart → ℕ
part_nesting = fold-StringPart ℕ ℕ ℕ ℕ ℕ ℕ class_nesting_by nesting_by item_nesting_by member_nesting_by step_nesting_by part_nesting_by
