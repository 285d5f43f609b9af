-- How large a program is, and how many reductions the run of its module may take. Each node of a tree counts, and so do its
-- leaves: names of steps, of variables that are declared, and pieces of strings. Lists of arguments and branches are no nodes.
-- This project's own.
use Rattle.std.specs.Prelude.{ℕ, suc, ◌+◌, ◌*◌, ◌^◌, List, [], ◌∷◌, Option}
use Rattle.std.specs.Option.{option_map_or}
use Rattle.hph_ast.specs.declared.expr.Expr.{Expr}
use Rattle.hph_ast.specs.declared.expr.ClassReference.TheOpen.{ClassReference-F, Expr-F, Item-F, MemberName-F, Step-F, StringPart-F}
use Rattle.hph_ast.specs.declared.expr.ClassReference.TheFolds.{fold-Expr, fold-Item}
use Rattle.hph_ast.specs.declared.expr.Item.{Item}
use Rattle.hph_ast.specs.declared.class.Member.TheOpen.{Member-F, Statement-F, Class-F, Function-F, Case-F, ElseIf-F}
use Rattle.hph_ast.specs.declared.class.Member.TheFolds.{fold-Statement}
use Rattle.hph_ast.specs.declared.function.Param.{Param}
use Rattle.hph_ast.specs.declared.stmt.Statement.{Statement}
use Rattle.hph_ast.specs.declared.stmt.StaticVariable.{StaticVariable}
use Rattle.hph_ast.specs.declared.stmt.ForeachTarget.{ForeachTarget}
use Rattle.hph_ast.specs.declared.stmt.ForeachTarget.TheVariants as target
use Rattle.hph_ast.specs.declared.class.ConstantItem.{ConstantItem}
use Rattle.hph_ast.specs.declared.class.PropertyItem.{PropertyItem}
use Rattle.hph_ast.specs.declared.program.File.{File}
use Rattle.hph_ast.specs.declared.program.Program.{Program}

abbrev pub total_of : {A : Type 0} → (A → ℕ) → List A → ℕ
total_of f [] = 0
total_of f (x ∷ xs) = f x + total_of f xs

abbrev pub total : List ℕ → ℕ
total ns = total_of (λ n. n) ns

abbrev pub maybe : {A : Type 0} → (A → ℕ) → Option A → ℕ
maybe f x = option_map_or f x 0

-- each is given the nodes of its parts
abbrev pub class_nodes_by : ClassReference-F ℕ ℕ ℕ ℕ ℕ ℕ → ℕ
class_nodes_by (ClassReference-F.ByExpression at x) = suc x
class_nodes_by _ = 1

abbrev pub item_nodes_by : Item-F ℕ ℕ ℕ ℕ ℕ ℕ → ℕ
item_nodes_by (Item-F.Plain at x) = suc x
item_nodes_by (Item-F.Keyed at x y) = suc (x + y)
item_nodes_by (Item-F.Reference at x) = suc x
item_nodes_by (Item-F.KeyedReference at x y ampersand) = suc (x + y)
item_nodes_by (Item-F.Hole at) = 1

abbrev pub member_nodes_by : MemberName-F ℕ ℕ ℕ ℕ ℕ ℕ → ℕ
member_nodes_by (MemberName-F.Named name) = 0
member_nodes_by (MemberName-F.Computed x) = x

-- a step is its key, or a leaf where it has none
abbrev pub step_nodes_by : Step-F ℕ ℕ ℕ ℕ ℕ ℕ → ℕ
step_nodes_by (Step-F.Index at x) = x
step_nodes_by (Step-F.Append at) = 1
step_nodes_by (Step-F.Property at name) = suc name

abbrev pub part_nodes_by : StringPart-F ℕ ℕ ℕ ℕ ℕ ℕ → ℕ
part_nodes_by (StringPart-F.Piece at bytes) = 1
part_nodes_by (StringPart-F.Interpolation x) = x

abbrev pub nodes_by : Expr-F ℕ ℕ ℕ ℕ ℕ ℕ → ℕ
nodes_by (Expr-F.Interpolated at parts) = suc (total parts)
nodes_by (Expr-F.Array at form items) = suc (total items)
nodes_by (Expr-F.Call at name xs) = suc (total xs)
nodes_by (Expr-F.DynamicCall at x xs) = suc (x + total xs)
nodes_by (Expr-F.StaticCall at class name xs) = suc (class + (name + total xs))
nodes_by (Expr-F.MethodCall at x name xs) = suc (x + (name + total xs))
nodes_by (Expr-F.New at class xs) = suc (class + total xs)
nodes_by (Expr-F.ClassConstant at class name) = suc class
nodes_by (Expr-F.ClassName at class colons) = suc class
nodes_by (Expr-F.StaticProperty at class name) = suc class
nodes_by (Expr-F.Paren at x) = suc x
nodes_by (Expr-F.Isset at xs) = suc (total xs)
nodes_by (Expr-F.Empty at x) = suc x
nodes_by (Expr-F.ExitWith at x) = suc x
nodes_by (Expr-F.Path at x steps) = suc (x + total steps)
nodes_by (Expr-F.Update at form x) = suc x
nodes_by (Expr-F.Prefix at op x) = suc x
nodes_by (Expr-F.InstanceOf at x classes) = suc (x + total classes)
nodes_by (Expr-F.Run at x more) = suc (x + total_of (λ o. o.1) more)
nodes_by (Expr-F.Pair at op x y) = suc (x + y)
nodes_by (Expr-F.Ternary at x y z) = suc (x + (y + z))
nodes_by (Expr-F.ShortTernary at x more) = suc (x + total more)
nodes_by (Expr-F.Assign at op x y) = suc (x + y)
nodes_by (Expr-F.AssignReference at x y ampersand) = suc (x + y)
nodes_by (Expr-F.Destructure at items x) = suc (total items + x)
nodes_by (Expr-F.NamedArgument at name x) = suc x
nodes_by _ = 1

unfoldable pub nodes : Expr → ℕ
nodes = fold-Expr ℕ ℕ ℕ ℕ ℕ ℕ class_nodes_by nodes_by item_nodes_by member_nodes_by step_nodes_by part_nodes_by

unfoldable pub item_nodes : Item → ℕ
item_nodes = fold-Item ℕ ℕ ℕ ℕ ℕ ℕ class_nodes_by nodes_by item_nodes_by member_nodes_by step_nodes_by part_nodes_by

-- ---- statements

-- a parameter, and its type if one is written
abbrev pub param_nodes : Param → ℕ
param_nodes p = suc (maybe (λ type. 1) p.ty + maybe nodes p.default)

abbrev pub target_nodes : ForeachTarget → ℕ
target_nodes (target.Reference x ampersand) = nodes x
target_nodes (target.Destructure bracket items) = total_of item_nodes items
target_nodes _ = 0

abbrev pub function_nodes_by : Function-F ℕ ℕ ℕ ℕ ℕ ℕ → ℕ
function_nodes_by f = suc (total_of param_nodes f.params + (maybe (λ type. 1) f.result + total f.body))

abbrev pub class_nodes_of : Class-F ℕ ℕ ℕ ℕ ℕ ℕ → ℕ
class_nodes_of c = suc (total c.members)

-- each constant, property and variable of a declaration counts beside its value
abbrev pub member_nodes_of : Member-F ℕ ℕ ℕ ℕ ℕ ℕ → ℕ
member_nodes_of (Member-F.Constants at mods items) = suc (total_of (λ (i : ConstantItem). suc (nodes i.value)) items)
member_nodes_of (Member-F.Properties at mods ty items) =
    suc (maybe (λ type. 1) ty + total_of (λ (i : PropertyItem). suc (maybe nodes i.value)) items)
member_nodes_of (Member-F.Method at mods f) = suc f

abbrev pub case_nodes_by : Case-F ℕ ℕ ℕ ℕ ℕ ℕ → ℕ
case_nodes_by c = suc (maybe nodes c.test + total c.body)

abbrev pub else_if_nodes_by : ElseIf-F ℕ ℕ ℕ ℕ ℕ ℕ → ℕ
else_if_nodes_by b = nodes b.test + b.body

abbrev pub statement_nodes_by : Statement-F ℕ ℕ ℕ ℕ ℕ ℕ → ℕ
statement_nodes_by (Statement-F.Empty at) = 1
statement_nodes_by (Statement-F.InlineText at bytes) = 1
statement_nodes_by (Statement-F.Block at body) = suc (total body)
statement_nodes_by (Statement-F.Expression at x) = suc (nodes x)
statement_nodes_by (Statement-F.Function f) = f
statement_nodes_by (Statement-F.Class c) = c
statement_nodes_by (Statement-F.If at x body more other) = suc (nodes x + (body + (total more + maybe (λ n. n) other)))
statement_nodes_by (Statement-F.While at x body) = suc (nodes x + body)
statement_nodes_by (Statement-F.DoWhile at body x) = suc (body + nodes x)
statement_nodes_by (Statement-F.For at init test step body) =
    suc (total_of nodes init + (total_of nodes test + (total_of nodes step + body)))
statement_nodes_by (Statement-F.Foreach at x key value body) = suc (nodes x + (target_nodes value + body))
statement_nodes_by (Statement-F.Switch at x cases) = suc (nodes x + total cases)
statement_nodes_by (Statement-F.Break at levels) = 1
statement_nodes_by (Statement-F.Continue at levels) = 1
statement_nodes_by (Statement-F.Return at value) = suc (maybe nodes value)
statement_nodes_by (Statement-F.Echo at xs) = suc (total_of nodes xs)
statement_nodes_by (Statement-F.Global at names) = suc (total_of (λ name. 1) names)
statement_nodes_by (Statement-F.Static at variables) = suc (total_of (λ (v : StaticVariable). suc (maybe nodes v.value)) variables)
statement_nodes_by (Statement-F.Unset at paths) = suc (total_of nodes paths)
statement_nodes_by (Statement-F.Const at items) = suc (total_of (λ (i : ConstantItem). suc (nodes i.value)) items)

unfoldable pub statement_nodes : Statement → ℕ
statement_nodes = fold-Statement ℕ ℕ ℕ ℕ ℕ ℕ
    member_nodes_of statement_nodes_by class_nodes_of function_nodes_by case_nodes_by else_if_nodes_by

-- the tree of a file is a node too
abbrev pub file_nodes : File → ℕ
file_nodes f = suc (total_of statement_nodes f.tree.statements)

abbrev pub program_nodes : Program → ℕ
program_nodes p = total_of file_nodes p.files

-- how many reductions a module may take for what its program does with so many units
abbrev pub cost : Program → ℕ → ℕ
cost p units = 4096 * (units + 1) * (program_nodes p + 1) ^ 2
