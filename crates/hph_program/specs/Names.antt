-- What the names of a program have to agree on: which parameters are by reference, which members may be declared again, and which
-- arguments may stand for a parameter by reference. This project's own.
use Rattle.std.specs.Prelude.{◌≡◌, ℕ, ◌+◌, Bool, true, false, ◌&&◌, ◌||◌, not, List, [], ◌∷◌, ◌++◌, map, flat_map, Contains, Option, None, Some, slice_get, if◌then◌else◌, bytes_eq, codes}
use Rattle.std.specs.Option.{option_map_or}
use Rattle.hph_ast.specs.declared.expr.Expr.{Expr, out-Expr}
use Rattle.hph_ast.specs.declared.expr.ClassReference.{ClassReference}
use Rattle.hph_ast.specs.declared.expr.Item.{Item}
use Rattle.hph_ast.specs.declared.expr.MemberName.{MemberName, out-MemberName}
use Rattle.hph_ast.specs.declared.expr.Step.{Step}
use Rattle.hph_ast.specs.declared.expr.StringPart.{StringPart}
use Rattle.hph_ast.specs.declared.expr.ClassReference.TheOpen.{ClassReference-F, Expr-F, Item-F, MemberName-F, Step-F, StringPart-F}
use Rattle.hph_ast.specs.declared.expr.ClassReference.TheFolds.{para-Expr}
use Rattle.hph_ast.specs.declared.function.Function.{Function, out-Function}
use Rattle.hph_ast.specs.declared.function.Param.{Param}
use Rattle.hph_ast.specs.declared.class.Class.{Class, out-Class}
use Rattle.hph_ast.specs.declared.class.Access.{Access}
use Rattle.hph_ast.specs.declared.class.Access.TheVariants as access
use Rattle.hph_ast.specs.declared.class.Modifiers.{Modifiers}
use Rattle.hph_ast.specs.declared.class.Member.{Member, out-Member}
use Rattle.hph_ast.specs.declared.class.Member.TheOpen.{Member-F, Statement-F, Class-F, Function-F, Case-F, ElseIf-F}
use Rattle.hph_ast.specs.declared.class.Member.TheFolds.{fold-Statement}
use Rattle.hph_ast.specs.declared.class.PropertyItem.{PropertyItem}
use Rattle.hph_ast.specs.declared.class.ConstantItem.{ConstantItem}
use Rattle.hph_ast.specs.declared.stmt.Statement.{Statement}
use Rattle.hph_ast.specs.declared.stmt.Case.{Case}
use Rattle.hph_ast.specs.declared.stmt.ElseIf.{ElseIf}
use Rattle.hph_ast.specs.declared.stmt.StaticVariable.{StaticVariable}
use Rattle.hph_ast.specs.declared.program.File.{File}
use Rattle.hph_ast.specs.declared.program.Program.{Program}
use Rattle.hph_ast.specs.Layers.{ExprLayer}
use Rattle.hph_ast.specs.Shapes.{is_written}
use Rattle.hph_ast.specs.RefusedExpressions.{is_this_name}
use Rattle.hph_php.specs.State.{Name, folded}
use Rattle.hph_php.specs.Declarations.{Declaration, a_function, a_method, PlacedClass, members_of, all_declarations, class_declarations, Codes, codes_of, takes_reference}

-- ---- parameters by reference

abbrev pub function_name : Function → Name
function_name f = folded (out-Function f).name.spelled

-- two functions, or two methods, of one name
abbrev pub share_name : Declaration → Declaration → Bool
share_name (a_function f) (a_function g) = bytes_eq (function_name f) (function_name g)
share_name (a_method c s f) (a_method d t g) = bytes_eq (function_name f) (function_name g)
share_name _ _ = false

abbrev pub params_of : Declaration → List Param
params_of (a_function f) = (out-Function f).params
params_of (a_method class is_static f) = (out-Function f).params
params_of _ = []

-- declarations of one name agree on a position that both have
abbrev pub AgreeOnReferences : Program → Type 0
AgreeOnReferences p = (d e : ℕ × Declaration) (position : ℕ) (x y : Param) →
    Contains (all_declarations p) d → Contains (all_declarations p) e → share_name d.1 e.1 ≡ true →
    slice_get (params_of d.1) position ≡ Some x → slice_get (params_of e.1) position ≡ Some y → x.by_reference ≡ y.by_reference

-- ---- private members

abbrev pub class_name : PlacedClass → Name
class_name c = folded (out-Class c.class).name.spelled

-- whether the second class has the name of the first's parent
abbrev pub names_parent : PlacedClass → PlacedClass → Bool
names_parent c d = option_map_or (λ parent. bytes_eq (folded parent.spelled) (class_name d)) (out-Class c.class).parent false

-- an ancestor by name: any class of the parent's name, and its ancestors by name
pub data IsAncestor (classes : List PlacedClass) : PlacedClass → PlacedClass → Type 0 where
  parent : {c d : PlacedClass} → Contains classes d → names_parent c d ≡ true → IsAncestor classes c d
  further : {c d e : PlacedClass} → Contains classes d → names_parent c d ≡ true → IsAncestor classes d e → IsAncestor classes c e

abbrev pub is_private : Modifiers → Bool
is_private mods = option_map_or is_private_access mods.access false
  where
    is_private_access : Access → Bool
    is_private_access access.Private = true
    is_private_access _ = false

-- the names of members with modifiers that pass a test: of properties, and of methods but `__construct`, in lower case
abbrev pub property_names : (Modifiers → Bool) → Member → List Name
property_names wanted m = names_at (out-Member m)
  where
    names_at : Member-F Member Statement Class Function Case ElseIf → List Name
    names_at (Member-F.Properties at mods ty items) = if wanted mods then map (λ (i : PropertyItem). i.name.spelled) items else []
    names_at _ = []

abbrev pub method_names : (Modifiers → Bool) → Member → List Name
method_names wanted m = names_at (out-Member m)
  where
    unless_constructor : Name → List Name
    unless_constructor name = if bytes_eq name (codes "__construct") then [] else name ∷ []

    names_at : Member-F Member Statement Class Function Case ElseIf → List Name
    names_at (Member-F.Method at mods f) = if wanted mods then unless_constructor (function_name f) else []
    names_at _ = []

abbrev pub any_modifiers : Modifiers → Bool
any_modifiers mods = true

-- no class declares what an ancestor declares private
pub record KeepsPrivates (p : Program) : Type 0 where
  pub properties : (c d : PlacedClass) (name : Name) → Contains (class_declarations p) c → IsAncestor (class_declarations p) c d →
      Contains (flat_map (property_names any_modifiers) (members_of c)) name →
      Contains (flat_map (property_names is_private) (members_of d)) name → ⊥
  pub methods : (c d : PlacedClass) (name : Name) → Contains (class_declarations p) c → IsAncestor (class_declarations p) c d →
      Contains (flat_map (method_names any_modifiers) (members_of c)) name →
      Contains (flat_map (method_names is_private) (members_of d)) name → ⊥

-- ---- arguments by reference

-- a variable, but for `$this`
abbrev pub is_shareable : Expr → Bool
is_shareable x = is_shareable_at (out-Expr x)
  where
    is_shareable_at : ExprLayer → Bool
    is_shareable_at (Expr-F.Variable at name) = not (is_this_name name)
    is_shareable_at _ = false

-- the arguments from a position on that are for a parameter by reference, and no such variables
abbrev pub unshareable : (takes : ℕ → Bool) → ℕ → List Expr → List Expr
unshareable takes position [] = []
unshareable takes position (x ∷ xs) =
    (if takes position && not (is_shareable x) then x ∷ [] else []) ++ unshareable takes (position + 1) xs

-- array_push and array_pop change their first argument, so it is a path that may be written
abbrev pub changes_array : Name → Bool
changes_array name = bytes_eq (folded name) (codes "array_push") || bytes_eq (folded name) (codes "array_pop")

abbrev pub unchangeable : Name → List Expr → List Expr
unchangeable name [] = []
unchangeable name (x ∷ xs) = if changes_array name && not (is_written x) then x ∷ [] else []

-- a part with the wrong arguments in it
abbrev pub With : Type 0 → Type 0
With T = T × List Expr

abbrev pub all_of : {T : Type 0} → List (With T) → List Expr
all_of xs = flat_map (λ x. x.1) xs

abbrev pub parts_of : {T : Type 0} → List (With T) → List T
parts_of xs = map (λ x. x.0) xs

-- a computed name is refused
abbrev pub named_member : MemberName → Name
named_member name = name_at (out-MemberName name)
  where
    name_at : MemberName-F ClassReference Expr Item MemberName Step StringPart → Name
    name_at (MemberName-F.Named name) = name
    name_at (MemberName-F.Computed x) = []

-- in a program, each node is given its parts with the wrong arguments in them
module _ (program : Codes) where
  abbrev pub of_function : Name → List (With Expr) → List Expr
  of_function name xs = unchangeable name (parts_of xs) ++ (unshareable (takes_reference program false name) 0 (parts_of xs) ++ all_of xs)

  abbrev pub of_method : Name → List (With Expr) → List Expr
  of_method name xs = unshareable (takes_reference program true name) 0 (parts_of xs) ++ all_of xs

  abbrev pub in_class : ClassReference-F (With ClassReference) (With Expr) (With Item) (With MemberName) (With Step) (With StringPart) → List Expr
  in_class (ClassReference-F.ByExpression at x) = x.1
  in_class _ = []

  abbrev pub in_item : Item-F (With ClassReference) (With Expr) (With Item) (With MemberName) (With Step) (With StringPart) → List Expr
  in_item (Item-F.Plain at x) = x.1
  in_item (Item-F.Keyed at x y) = x.1 ++ y.1
  in_item (Item-F.Reference at x) = x.1
  in_item (Item-F.KeyedReference at x y ampersand) = x.1 ++ y.1
  in_item (Item-F.Hole at) = []

  abbrev pub in_name : MemberName-F (With ClassReference) (With Expr) (With Item) (With MemberName) (With Step) (With StringPart) → List Expr
  in_name (MemberName-F.Named name) = []
  in_name (MemberName-F.Computed x) = x.1

  abbrev pub in_step : Step-F (With ClassReference) (With Expr) (With Item) (With MemberName) (With Step) (With StringPart) → List Expr
  in_step (Step-F.Index at x) = x.1
  in_step (Step-F.Append at) = []
  in_step (Step-F.Property at name) = name.1

  abbrev pub in_part : StringPart-F (With ClassReference) (With Expr) (With Item) (With MemberName) (With Step) (With StringPart) → List Expr
  in_part (StringPart-F.Piece at bytes) = []
  in_part (StringPart-F.Interpolation x) = x.1

  abbrev pub in_expression : Expr-F (With ClassReference) (With Expr) (With Item) (With MemberName) (With Step) (With StringPart) → List Expr
  in_expression (Expr-F.Interpolated at parts) = all_of parts
  in_expression (Expr-F.Array at form items) = all_of items
  in_expression (Expr-F.Call at name xs) = of_function name xs
  in_expression (Expr-F.DynamicCall at x xs) = x.1 ++ all_of xs
  in_expression (Expr-F.StaticCall at class name xs) = class.1 ++ (name.1 ++ of_method (named_member name.0) xs)
  in_expression (Expr-F.MethodCall at x name xs) = x.1 ++ (name.1 ++ of_method (named_member name.0) xs)
  in_expression (Expr-F.New at class xs) = class.1 ++ of_method (codes "__construct") xs
  in_expression (Expr-F.ClassConstant at class name) = class.1
  in_expression (Expr-F.ClassName at class colons) = class.1
  in_expression (Expr-F.StaticProperty at class name) = class.1
  in_expression (Expr-F.Paren at x) = x.1
  in_expression (Expr-F.Isset at xs) = all_of xs
  in_expression (Expr-F.Empty at x) = x.1
  in_expression (Expr-F.ExitWith at x) = x.1
  in_expression (Expr-F.Path at x steps) = x.1 ++ all_of steps
  in_expression (Expr-F.Update at form x) = x.1
  in_expression (Expr-F.Prefix at op x) = x.1
  in_expression (Expr-F.InstanceOf at x classes) = x.1 ++ all_of classes
  in_expression (Expr-F.Run at x more) = x.1 ++ flat_map (λ o. o.1.1) more
  in_expression (Expr-F.Pair at op x y) = x.1 ++ y.1
  in_expression (Expr-F.Ternary at x y z) = x.1 ++ (y.1 ++ z.1)
  in_expression (Expr-F.ShortTernary at x more) = x.1 ++ all_of more
  in_expression (Expr-F.Assign at op x y) = x.1 ++ y.1
  in_expression (Expr-F.AssignReference at x y ampersand) = x.1 ++ y.1
  in_expression (Expr-F.Destructure at items x) = all_of items ++ x.1
  in_expression (Expr-F.NamedArgument at name x) = x.1
  in_expression _ = []

  -- the arguments in an expression that are for a parameter by reference and can't be, in order of calls
  unfoldable pub wrong_arguments : Expr → List Expr
  wrong_arguments = para-Expr (List Expr) (List Expr) (List Expr) (List Expr) (List Expr) (List Expr)
      in_class in_expression in_item in_name in_step in_part

-- ---- the expressions of a statement

abbrev pub one : Option Expr → List Expr
one None = []
one (Some x) = x ∷ []

abbrev pub in_function : Function-F (List Expr) (List Expr) (List Expr) (List Expr) (List Expr) (List Expr) → List Expr
in_function f = flat_map (λ (p : Param). one p.default) f.params ++ flat_map (λ s. s) f.body

abbrev pub in_class_declaration : Class-F (List Expr) (List Expr) (List Expr) (List Expr) (List Expr) (List Expr) → List Expr
in_class_declaration c = flat_map (λ m. m) c.members

abbrev pub in_member : Member-F (List Expr) (List Expr) (List Expr) (List Expr) (List Expr) (List Expr) → List Expr
in_member (Member-F.Constants at mods items) = map (λ (i : ConstantItem). i.value) items
in_member (Member-F.Properties at mods ty items) = flat_map (λ (i : PropertyItem). one i.value) items
in_member (Member-F.Method at mods f) = f

abbrev pub in_case : Case-F (List Expr) (List Expr) (List Expr) (List Expr) (List Expr) (List Expr) → List Expr
in_case c = one c.test ++ flat_map (λ s. s) c.body

abbrev pub in_else_if : ElseIf-F (List Expr) (List Expr) (List Expr) (List Expr) (List Expr) (List Expr) → List Expr
in_else_if b = b.test ∷ b.body

abbrev pub in_statement : Statement-F (List Expr) (List Expr) (List Expr) (List Expr) (List Expr) (List Expr) → List Expr
in_statement (Statement-F.Block at body) = flat_map (λ s. s) body
in_statement (Statement-F.Expression at x) = x ∷ []
in_statement (Statement-F.Function f) = f
in_statement (Statement-F.Class c) = c
in_statement (Statement-F.If at x body more other) = x ∷ body ++ (flat_map (λ b. b) more ++ option_map_or (λ s. s) other [])
in_statement (Statement-F.While at x body) = x ∷ body
in_statement (Statement-F.DoWhile at body x) = body ++ x ∷ []
in_statement (Statement-F.For at init test step body) = init ++ (test ++ (step ++ body))
in_statement (Statement-F.Foreach at x key value body) = x ∷ body
in_statement (Statement-F.Switch at x cases) = x ∷ flat_map (λ c. c) cases
in_statement (Statement-F.Return at value) = one value
in_statement (Statement-F.Echo at xs) = xs
in_statement (Statement-F.Static at variables) = flat_map (λ (v : StaticVariable). one v.value) variables
in_statement (Statement-F.Unset at paths) = paths
in_statement (Statement-F.Const at items) = map (λ (i : ConstantItem). i.value) items
in_statement _ = []

-- all expressions of a statement that are no parts of others, in order of text
unfoldable pub expressions_in : Statement → List Expr
expressions_in = fold-Statement (List Expr) (List Expr) (List Expr) (List Expr) (List Expr) (List Expr)
    in_member in_statement in_class_declaration in_function in_case in_else_if

abbrev pub wrong_arguments_of : Program → List Expr
wrong_arguments_of p = flat_map (λ (f : File). flat_map (wrong_arguments (codes_of p)) (flat_map expressions_in f.tree.statements)) p.files

-- ---- all of it

pub record AgreesOnNames (p : Program) : Type 0 where
  pub references : AgreeOnReferences p
  pub privates : KeepsPrivates p
  pub arguments : wrong_arguments_of p ≡ []
