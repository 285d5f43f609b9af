-- The sites of a program: each node of a tree that has a place is one, and they are numbered from 0 in order of file and text, a
-- node before its parts. This project's own.
use Rattle.std.specs.Prelude.{ℕ, suc, List, [], ◌∷◌, map, Option, None, Some}
use Rattle.hph_ast.specs.declared.token.At.{At}
use Rattle.hph_ast.specs.declared.operator.Binary.{Binary}
use Rattle.hph_ast.specs.declared.expr.Expr.{Expr, roll-Expr}
use Rattle.hph_ast.specs.declared.expr.ClassReference.{ClassReference, roll-ClassReference}
use Rattle.hph_ast.specs.declared.expr.Item.{Item, roll-Item}
use Rattle.hph_ast.specs.declared.expr.MemberName.{MemberName, roll-MemberName}
use Rattle.hph_ast.specs.declared.expr.Step.{Step, roll-Step}
use Rattle.hph_ast.specs.declared.expr.StringPart.{StringPart, roll-StringPart}
use Rattle.hph_ast.specs.declared.expr.ClassReference.TheOpen.{ClassReference-F, Expr-F, Item-F, MemberName-F, Step-F, StringPart-F}
use Rattle.hph_ast.specs.declared.expr.ClassReference.TheFolds.{fold-Expr, fold-Item}
use Rattle.hph_ast.specs.declared.function.DeclaredType.{DeclaredType}
use Rattle.hph_ast.specs.declared.function.Param.{Param}
use Rattle.hph_ast.specs.declared.function.Function.{Function, roll-Function}
use Rattle.hph_ast.specs.declared.class.Class.{Class, roll-Class}
use Rattle.hph_ast.specs.declared.class.ConstantItem.{ConstantItem}
use Rattle.hph_ast.specs.declared.class.PropertyItem.{PropertyItem}
use Rattle.hph_ast.specs.declared.class.Member.{Member, roll-Member}
use Rattle.hph_ast.specs.declared.class.Member.TheOpen.{Member-F, Statement-F, Class-F, Function-F, Case-F, ElseIf-F}
use Rattle.hph_ast.specs.declared.class.Member.TheFolds.{fold-Statement}
use Rattle.hph_ast.specs.declared.stmt.Statement.{Statement, roll-Statement}
use Rattle.hph_ast.specs.declared.stmt.Case.{Case, roll-Case}
use Rattle.hph_ast.specs.declared.stmt.ElseIf.{ElseIf, roll-ElseIf}
use Rattle.hph_ast.specs.declared.stmt.StaticVariable.{StaticVariable}
use Rattle.hph_ast.specs.declared.stmt.ForeachTarget.{ForeachTarget}
use Rattle.hph_ast.specs.declared.stmt.ForeachTarget.TheVariants as target
use Rattle.hph_ast.specs.declared.program.FileTree.{FileTree}
use Rattle.hph_ast.specs.declared.program.File.{File}

-- what is given the number of its first site, and gives itself with its sites numbered and the number behind its last
abbrev pub Numbered : Type 0 → Type 0
Numbered A = ℕ → A × ℕ

-- ---- how parts are joined

-- what has no site
abbrev pub give : {A : Type 0} → A → Numbered A
give a n = (a, n)

-- the place of a node
abbrev pub site : At → Numbered At
site at n = (record at { site = n }, suc n)

abbrev pub onwards : {A B : Type 0} → A × ℕ → (A → Numbered B) → B × ℕ
onwards (a, n) go = go a n

abbrev pub bind : {A B : Type 0} → Numbered A → (A → Numbered B) → Numbered B
bind m go n = onwards (m n) go

-- a node and one part, two or three
abbrev pub node1 : {A Z : Type 0} → (At → A → Z) → At → Numbered A → Numbered Z
node1 f at a = bind (site at) (λ at. bind a (λ a. give (f at a)))

abbrev pub node2 : {A B Z : Type 0} → (At → A → B → Z) → At → Numbered A → Numbered B → Numbered Z
node2 f at a b = bind (site at) (λ at. bind a (λ a. bind b (λ b. give (f at a b))))

abbrev pub node3 : {A B C Z : Type 0} → (At → A → B → C → Z) → At → Numbered A → Numbered B → Numbered C → Numbered Z
node3 f at a b c = bind (site at) (λ at. bind a (λ a. bind b (λ b. bind c (λ c. give (f at a b c)))))

abbrev pub node : {Z : Type 0} → (At → Z) → At → Numbered Z
node f at = bind (site at) (λ at. give (f at))

abbrev pub each : {A : Type 0} → List (Numbered A) → Numbered (List A)
each [] = give []
each (m ∷ ms) = bind m (λ a. bind (each ms) (λ rest. give (a ∷ rest)))

abbrev pub maybe : {A : Type 0} → Option (Numbered A) → Numbered (Option A)
maybe None = give None
maybe (Some m) = bind m (λ a. give (Some a))

-- ---- expressions: each node is given its parts

abbrev pub class_by : ClassReference-F (Numbered ClassReference) (Numbered Expr) (Numbered Item) (Numbered MemberName) (Numbered Step) (Numbered StringPart) → Numbered ClassReference
class_by (ClassReference-F.ByName at name) = node (λ at. roll-ClassReference (ClassReference-F.ByName at name)) at
class_by (ClassReference-F.SelfClass at) = node (λ at. roll-ClassReference (ClassReference-F.SelfClass at)) at
class_by (ClassReference-F.Parent at) = node (λ at. roll-ClassReference (ClassReference-F.Parent at)) at
class_by (ClassReference-F.Static at) = node (λ at. roll-ClassReference (ClassReference-F.Static at)) at
class_by (ClassReference-F.ByExpression at x) = node1 (λ at x. roll-ClassReference (ClassReference-F.ByExpression at x)) at x

abbrev pub item_by : Item-F (Numbered ClassReference) (Numbered Expr) (Numbered Item) (Numbered MemberName) (Numbered Step) (Numbered StringPart) → Numbered Item
item_by (Item-F.Plain at x) = node1 (λ at x. roll-Item (Item-F.Plain at x)) at x
item_by (Item-F.Keyed at x y) = node2 (λ at x y. roll-Item (Item-F.Keyed at x y)) at x y
item_by (Item-F.Reference at x) = node1 (λ at x. roll-Item (Item-F.Reference at x)) at x
item_by (Item-F.KeyedReference at x y ampersand) = node2 (λ at x y. roll-Item (Item-F.KeyedReference at x y ampersand)) at x y
item_by (Item-F.Hole at) = node (λ at. roll-Item (Item-F.Hole at)) at

abbrev pub member_name_by : MemberName-F (Numbered ClassReference) (Numbered Expr) (Numbered Item) (Numbered MemberName) (Numbered Step) (Numbered StringPart) → Numbered MemberName
member_name_by (MemberName-F.Named name) = give (roll-MemberName (MemberName-F.Named name))
member_name_by (MemberName-F.Computed x) = bind x (λ x. give (roll-MemberName (MemberName-F.Computed x)))

abbrev pub step_by : Step-F (Numbered ClassReference) (Numbered Expr) (Numbered Item) (Numbered MemberName) (Numbered Step) (Numbered StringPart) → Numbered Step
step_by (Step-F.Index at x) = node1 (λ at x. roll-Step (Step-F.Index at x)) at x
step_by (Step-F.Append at) = node (λ at. roll-Step (Step-F.Append at)) at
step_by (Step-F.Property at name) = node1 (λ at name. roll-Step (Step-F.Property at name)) at name

abbrev pub part_by : StringPart-F (Numbered ClassReference) (Numbered Expr) (Numbered Item) (Numbered MemberName) (Numbered Step) (Numbered StringPart) → Numbered StringPart
part_by (StringPart-F.Piece at bytes) = node (λ at. roll-StringPart (StringPart-F.Piece at bytes)) at
part_by (StringPart-F.Interpolation x) = bind x (λ x. give (roll-StringPart (StringPart-F.Interpolation x)))

abbrev pub operand : Binary × Numbered Expr → Numbered (Binary × Expr)
operand (op, x) = bind x (λ x. give (op, x))

abbrev pub expression_by : Expr-F (Numbered ClassReference) (Numbered Expr) (Numbered Item) (Numbered MemberName) (Numbered Step) (Numbered StringPart) → Numbered Expr
expression_by (Expr-F.Int at value) = node (λ at. roll-Expr (Expr-F.Int at value)) at
expression_by (Expr-F.Text at bytes) = node (λ at. roll-Expr (Expr-F.Text at bytes)) at
expression_by (Expr-F.Interpolated at parts) = node1 (λ at parts. roll-Expr (Expr-F.Interpolated at parts)) at (each parts)
expression_by (Expr-F.Variable at name) = node (λ at. roll-Expr (Expr-F.Variable at name)) at
expression_by (Expr-F.Constant at name) = node (λ at. roll-Expr (Expr-F.Constant at name)) at
expression_by (Expr-F.Directory at) = node (λ at. roll-Expr (Expr-F.Directory at)) at
expression_by (Expr-F.Array at form items) = node1 (λ at items. roll-Expr (Expr-F.Array at form items)) at (each items)
expression_by (Expr-F.Call at name xs) = node1 (λ at xs. roll-Expr (Expr-F.Call at name xs)) at (each xs)
expression_by (Expr-F.DynamicCall at x xs) = node2 (λ at x xs. roll-Expr (Expr-F.DynamicCall at x xs)) at x (each xs)
expression_by (Expr-F.StaticCall at class name xs) = node3 (λ at class name xs. roll-Expr (Expr-F.StaticCall at class name xs)) at class name (each xs)
expression_by (Expr-F.MethodCall at x name xs) = node3 (λ at x name xs. roll-Expr (Expr-F.MethodCall at x name xs)) at x name (each xs)
expression_by (Expr-F.New at class xs) = node2 (λ at class xs. roll-Expr (Expr-F.New at class xs)) at class (each xs)
expression_by (Expr-F.ClassConstant at class name) = node1 (λ at class. roll-Expr (Expr-F.ClassConstant at class name)) at class
expression_by (Expr-F.ClassName at class colons) = node1 (λ at class. roll-Expr (Expr-F.ClassName at class colons)) at class
expression_by (Expr-F.StaticProperty at class name) = node1 (λ at class. roll-Expr (Expr-F.StaticProperty at class name)) at class
expression_by (Expr-F.Paren at x) = node1 (λ at x. roll-Expr (Expr-F.Paren at x)) at x
expression_by (Expr-F.Isset at xs) = node1 (λ at xs. roll-Expr (Expr-F.Isset at xs)) at (each xs)
expression_by (Expr-F.Empty at x) = node1 (λ at x. roll-Expr (Expr-F.Empty at x)) at x
expression_by (Expr-F.Exit at) = node (λ at. roll-Expr (Expr-F.Exit at)) at
expression_by (Expr-F.ExitWith at x) = node1 (λ at x. roll-Expr (Expr-F.ExitWith at x)) at x
expression_by (Expr-F.Path at x steps) = node2 (λ at x steps. roll-Expr (Expr-F.Path at x steps)) at x (each steps)
expression_by (Expr-F.Update at form x) = node1 (λ at x. roll-Expr (Expr-F.Update at form x)) at x
expression_by (Expr-F.Prefix at op x) = node1 (λ at x. roll-Expr (Expr-F.Prefix at op x)) at x
expression_by (Expr-F.InstanceOf at x classes) = node2 (λ at x classes. roll-Expr (Expr-F.InstanceOf at x classes)) at x (each classes)
expression_by (Expr-F.Run at x more) = node2 (λ at x more. roll-Expr (Expr-F.Run at x more)) at x (each (map operand more))
expression_by (Expr-F.Pair at op x y) = node2 (λ at x y. roll-Expr (Expr-F.Pair at op x y)) at x y
expression_by (Expr-F.Ternary at x y z) = node3 (λ at x y z. roll-Expr (Expr-F.Ternary at x y z)) at x y z
expression_by (Expr-F.ShortTernary at x more) = node2 (λ at x more. roll-Expr (Expr-F.ShortTernary at x more)) at x (each more)
expression_by (Expr-F.Assign at op x y) = node2 (λ at x y. roll-Expr (Expr-F.Assign at op x y)) at x y
expression_by (Expr-F.AssignReference at x y ampersand) = node2 (λ at x y. roll-Expr (Expr-F.AssignReference at x y ampersand)) at x y
expression_by (Expr-F.Destructure at items x) = node2 (λ at items x. roll-Expr (Expr-F.Destructure at items x)) at (each items) x
expression_by (Expr-F.NamedArgument at name x) = node1 (λ at x. roll-Expr (Expr-F.NamedArgument at name x)) at x

unfoldable pub expression : Expr → Numbered Expr
expression = fold-Expr (Numbered ClassReference) (Numbered Expr) (Numbered Item) (Numbered MemberName) (Numbered Step) (Numbered StringPart)
    class_by expression_by item_by member_name_by step_by part_by

unfoldable pub item : Item → Numbered Item
item = fold-Item (Numbered ClassReference) (Numbered Expr) (Numbered Item) (Numbered MemberName) (Numbered Step) (Numbered StringPart)
    class_by expression_by item_by member_name_by step_by part_by

abbrev pub expressions : List Expr → Numbered (List Expr)
expressions xs = each (map expression xs)

abbrev pub maybe_expression : Option Expr → Numbered (Option Expr)
maybe_expression None = give None
maybe_expression (Some x) = bind (expression x) (λ x. give (Some x))

-- ---- declarations

abbrev pub type : Option DeclaredType → Numbered (Option DeclaredType)
type None = give None
type (Some ty) = bind (site ty.at) (λ at. give (Some (record ty { at = at })))

abbrev pub param : Param → Numbered Param
param p = bind (site p.at) (λ at. bind (type p.ty) (λ ty. bind (maybe_expression p.default) (λ default. give (record {
  at = at;
  ty = ty;
  by_reference = p.by_reference;
  name = p.name;
  default = default;
}))))

abbrev pub constant_item : ConstantItem → Numbered ConstantItem
constant_item i = bind (expression i.value) (λ value. give (record { name = i.name; value = value }))

abbrev pub property_item : PropertyItem → Numbered PropertyItem
property_item i = bind (maybe_expression i.value) (λ value. give (record { name = i.name; value = value }))

abbrev pub static_variable : StaticVariable → Numbered StaticVariable
static_variable v = bind (maybe_expression v.value) (λ value. give (record { name = v.name; value = value }))

abbrev pub foreach_target : ForeachTarget → Numbered ForeachTarget
foreach_target (target.Variable name) = give (target.Variable name)
foreach_target (target.Reference x ampersand) = bind (expression x) (λ x. give (target.Reference x ampersand))
foreach_target (target.Destructure bracket items) = bind (each (map item items)) (λ items. give (target.Destructure bracket items))

abbrev pub function_by : Function-F (Numbered Member) (Numbered Statement) (Numbered Class) (Numbered Function) (Numbered Case) (Numbered ElseIf) → Numbered Function
function_by f = bind (site f.at) (λ at. bind (each (map param f.params)) (λ params. bind (type f.result) (λ result. bind (each f.body) (λ body.
    give (roll-Function (record { at = at; name = f.name; params = params; result = result; body = body }))))))

abbrev pub class_declaration_by : Class-F (Numbered Member) (Numbered Statement) (Numbered Class) (Numbered Function) (Numbered Case) (Numbered ElseIf) → Numbered Class
class_declaration_by c = bind (site c.at) (λ at. bind (each c.members) (λ members.
    give (roll-Class (record { at = at; name = c.name; parent = c.parent; members = members }))))

abbrev pub member_by : Member-F (Numbered Member) (Numbered Statement) (Numbered Class) (Numbered Function) (Numbered Case) (Numbered ElseIf) → Numbered Member
member_by (Member-F.Constants at mods items) = node1 (λ at items. roll-Member (Member-F.Constants at mods items)) at (each (map constant_item items))
member_by (Member-F.Properties at mods ty items) = node2 (λ at ty items. roll-Member (Member-F.Properties at mods ty items)) at (type ty) (each (map property_item items))
member_by (Member-F.Method at mods f) = node1 (λ at f. roll-Member (Member-F.Method at mods f)) at f

-- ---- statements

abbrev pub case_by : Case-F (Numbered Member) (Numbered Statement) (Numbered Class) (Numbered Function) (Numbered Case) (Numbered ElseIf) → Numbered Case
case_by c = bind (site c.at) (λ at. bind (maybe_expression c.test) (λ test. bind (each c.body) (λ body.
    give (roll-Case (record { at = at; test = test; body = body })))))

abbrev pub else_if_by : ElseIf-F (Numbered Member) (Numbered Statement) (Numbered Class) (Numbered Function) (Numbered Case) (Numbered ElseIf) → Numbered ElseIf
else_if_by b = bind (expression b.test) (λ test. bind b.body (λ body. give (roll-ElseIf (record { test = test; body = body }))))

abbrev pub statement_by : Statement-F (Numbered Member) (Numbered Statement) (Numbered Class) (Numbered Function) (Numbered Case) (Numbered ElseIf) → Numbered Statement
statement_by (Statement-F.Empty at) = node (λ at. roll-Statement (Statement-F.Empty at)) at
statement_by (Statement-F.InlineText at bytes) = node (λ at. roll-Statement (Statement-F.InlineText at bytes)) at
statement_by (Statement-F.Block at body) = node1 (λ at body. roll-Statement (Statement-F.Block at body)) at (each body)
statement_by (Statement-F.Expression at x) = node1 (λ at x. roll-Statement (Statement-F.Expression at x)) at (expression x)
statement_by (Statement-F.Function f) = bind f (λ f. give (roll-Statement (Statement-F.Function f)))
statement_by (Statement-F.Class c) = bind c (λ c. give (roll-Statement (Statement-F.Class c)))
statement_by (Statement-F.If at x body more other) =
    bind (site at) (λ at. bind (expression x) (λ x. bind body (λ body. bind (each more) (λ more. bind (maybe other) (λ other.
    give (roll-Statement (Statement-F.If at x body more other)))))))
statement_by (Statement-F.While at x body) = node2 (λ at x body. roll-Statement (Statement-F.While at x body)) at (expression x) body
statement_by (Statement-F.DoWhile at body x) = node2 (λ at body x. roll-Statement (Statement-F.DoWhile at body x)) at body (expression x)
statement_by (Statement-F.For at init test step body) =
    bind (site at) (λ at. bind (expressions init) (λ init. bind (expressions test) (λ test. bind (expressions step) (λ step. bind body (λ body.
    give (roll-Statement (Statement-F.For at init test step body)))))))
statement_by (Statement-F.Foreach at x key value body) =
    node3 (λ at x value body. roll-Statement (Statement-F.Foreach at x key value body)) at (expression x) (foreach_target value) body
statement_by (Statement-F.Switch at x cases) = node2 (λ at x cases. roll-Statement (Statement-F.Switch at x cases)) at (expression x) (each cases)
statement_by (Statement-F.Break at levels) = node (λ at. roll-Statement (Statement-F.Break at levels)) at
statement_by (Statement-F.Continue at levels) = node (λ at. roll-Statement (Statement-F.Continue at levels)) at
statement_by (Statement-F.Return at value) = node1 (λ at value. roll-Statement (Statement-F.Return at value)) at (maybe_expression value)
statement_by (Statement-F.Echo at xs) = node1 (λ at xs. roll-Statement (Statement-F.Echo at xs)) at (expressions xs)
statement_by (Statement-F.Global at names) = node (λ at. roll-Statement (Statement-F.Global at names)) at
statement_by (Statement-F.Static at variables) = node1 (λ at vs. roll-Statement (Statement-F.Static at vs)) at (each (map static_variable variables))
statement_by (Statement-F.Unset at paths) = node1 (λ at paths. roll-Statement (Statement-F.Unset at paths)) at (expressions paths)
statement_by (Statement-F.Const at items) = node1 (λ at items. roll-Statement (Statement-F.Const at items)) at (each (map constant_item items))

unfoldable pub statement : Statement → Numbered Statement
statement = fold-Statement (Numbered Member) (Numbered Statement) (Numbered Class) (Numbered Function) (Numbered Case) (Numbered ElseIf)
    member_by statement_by class_declaration_by function_by case_by else_if_by

-- ---- files

abbrev pub file_tree : FileTree → Numbered FileTree
file_tree tree = bind (site tree.at) (λ at. bind (each (map statement tree.statements)) (λ ss. give (record { at = at; statements = ss })))

abbrev pub file : File → Numbered File
file f = bind (file_tree f.tree) (λ tree. give (record { path = f.path; bytes = f.bytes; tokens = f.tokens; tree = tree }))

-- files with their sites numbered
abbrev pub numbered_trees : List FileTree → List FileTree
numbered_trees trees = (each (map file_tree trees) 0).0

abbrev pub numbered_files : List File → List File
numbered_files files = (each (map file files) 0).0
