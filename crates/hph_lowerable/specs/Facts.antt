-- What lowering takes for granted of each node of a tree, beside what is refused: a number is an int of 64 bits, what is written is a
-- variable or a path that may be written, operators in a row group to the left, and the value of a constant, a parameter, a property
-- or a static variable is constant. This project's own; where it is said of tokens it is the grammar's.
use Rattle.std.specs.Prelude.{ℕ, ◌^◌, Bool, true, false, ◌&&◌, ◌||◌, List, [], ◌∷◌, Option, None, Some, nat_lt}
use Rattle.std.specs.List.{list_all}
use Rattle.hph_ast.specs.declared.operator.Binary.{Binary}
use Rattle.hph_ast.specs.declared.operator.Grouping.{Grouping}
use Rattle.hph_ast.specs.declared.operator.Grouping.TheVariants.{Left}
use Rattle.hph_ast.specs.declared.expr.Expr.{Expr}
use Rattle.hph_ast.specs.declared.expr.ClassReference.TheOpen.{ClassReference-F, Expr-F, Item-F, MemberName-F, Step-F, StringPart-F}
use Rattle.hph_ast.specs.declared.expr.ClassReference.TheFolds.{fold-Expr}
use Rattle.hph_ast.specs.declared.function.Param.{Param}
use Rattle.hph_ast.specs.declared.class.ConstantItem.{ConstantItem}
use Rattle.hph_ast.specs.declared.class.PropertyItem.{PropertyItem}
use Rattle.hph_ast.specs.declared.class.Member.TheOpen.{Member-F, Statement-F, Class-F, Function-F, Case-F, ElseIf-F}
use Rattle.hph_ast.specs.declared.class.Member.TheFolds.{fold-Statement}
use Rattle.hph_ast.specs.declared.stmt.Statement.{Statement}
use Rattle.hph_ast.specs.declared.stmt.StaticVariable.{StaticVariable}
use Rattle.hph_ast.specs.declared.program.FileTree.{FileTree}
use Rattle.hph_ast.specs.Levels.{grouping}
use Rattle.hph_ast.specs.ConstantExpressions.{is_constant}

-- ---- expressions

-- a variable, of a function or of a class; a call or a parenthesis; what may be assigned to; and whether all nodes in it are as they should be
pub record Facts : Type 0 where
  pub is_variable : Bool
  pub is_value : Bool
  pub is_written : Bool
  pub fits : Bool

-- whether a step is a property
pub record StepFacts : Type 0 where
  pub is_property : Bool
  pub fits : Bool

abbrev pub a_variable : Bool → Facts
a_variable fits = record { is_variable = true; is_value = false; is_written = true; fits = fits }

abbrev pub a_value : Bool → Facts
a_value fits = record { is_variable = false; is_value = true; is_written = false; fits = fits }

abbrev pub another : Bool → Facts
another fits = record { is_variable = false; is_value = false; is_written = false; fits = fits }

abbrev pub begins_with_property : List StepFacts → Bool
begins_with_property [] = false
begins_with_property (s ∷ ss) = s.is_property

-- a path whose base is a call or a parenthesis is written only by a first step `->`
abbrev pub a_path : Facts → List StepFacts → Bool → Facts
a_path base steps fits = record {
  is_variable = false;
  is_value = false;
  is_written = base.is_variable || (base.is_value && begins_with_property steps);
  fits = fits;
}

abbrev pub all_fit : List Facts → Bool
all_fit xs = list_all (λ (x : Facts). x.fits) xs

abbrev pub steps_fit : List StepFacts → Bool
steps_fit ss = list_all (λ (s : StepFacts). s.fits) ss

abbrev pub each : List Bool → Bool
each bs = list_all (λ b. b) bs

-- an int of 64 bits
abbrev pub is_int : ℕ → Bool
is_int value = nat_lt value (2 ^ 63)

abbrev pub is_left : Grouping → Bool
is_left Left = true
is_left _ = false

-- an operator in a row, with the operand behind it
abbrev pub operand_fits : Binary × Facts → Bool
operand_fits o = is_left (grouping o.0) && o.1.fits

-- each is given the facts of its parts
abbrev pub class_fits_by : ClassReference-F Bool Facts Bool Bool StepFacts Bool → Bool
class_fits_by (ClassReference-F.ByExpression at x) = x.fits
class_fits_by _ = true

abbrev pub item_fits_by : Item-F Bool Facts Bool Bool StepFacts Bool → Bool
item_fits_by (Item-F.Plain at x) = x.fits
item_fits_by (Item-F.Keyed at x y) = x.fits && y.fits
item_fits_by (Item-F.Reference at x) = x.fits
item_fits_by (Item-F.KeyedReference at x y ampersand) = x.fits && y.fits
item_fits_by (Item-F.Hole at) = true

abbrev pub name_fits_by : MemberName-F Bool Facts Bool Bool StepFacts Bool → Bool
name_fits_by (MemberName-F.Named name) = true
name_fits_by (MemberName-F.Computed x) = x.fits

abbrev pub step_facts_by : Step-F Bool Facts Bool Bool StepFacts Bool → StepFacts
step_facts_by (Step-F.Index at x) = record { is_property = false; fits = x.fits }
step_facts_by (Step-F.Append at) = record { is_property = false; fits = true }
step_facts_by (Step-F.Property at name) = record { is_property = true; fits = name }

abbrev pub part_fits_by : StringPart-F Bool Facts Bool Bool StepFacts Bool → Bool
part_fits_by (StringPart-F.Piece at bytes) = true
part_fits_by (StringPart-F.Interpolation x) = x.fits

abbrev pub facts_by : Expr-F Bool Facts Bool Bool StepFacts Bool → Facts
facts_by (Expr-F.Int at value) = another (is_int value)
facts_by (Expr-F.Text at bytes) = another true
facts_by (Expr-F.Interpolated at parts) = another (each parts)
facts_by (Expr-F.Variable at name) = a_variable true
facts_by (Expr-F.Constant at name) = another true
facts_by (Expr-F.Directory at) = another true
facts_by (Expr-F.Array at form items) = another (each items)
facts_by (Expr-F.Call at name xs) = a_value (all_fit xs)
facts_by (Expr-F.DynamicCall at x xs) = a_value (x.fits && all_fit xs)
facts_by (Expr-F.StaticCall at class name xs) = a_value (class && (name && all_fit xs))
facts_by (Expr-F.MethodCall at x name xs) = a_value (x.fits && (name && all_fit xs))
facts_by (Expr-F.New at class xs) = another (class && all_fit xs)
facts_by (Expr-F.ClassConstant at class name) = another class
facts_by (Expr-F.ClassName at class colons) = another class
facts_by (Expr-F.StaticProperty at class name) = a_variable class
facts_by (Expr-F.Paren at x) = a_value x.fits
facts_by (Expr-F.Isset at xs) = another (all_fit xs)
facts_by (Expr-F.Empty at x) = another x.fits
facts_by (Expr-F.Exit at) = another true
facts_by (Expr-F.ExitWith at x) = another x.fits
facts_by (Expr-F.Path at x steps) = a_path x steps (x.fits && steps_fit steps)
facts_by (Expr-F.Update at form x) = another (x.is_written && x.fits)
facts_by (Expr-F.Prefix at op x) = another x.fits
facts_by (Expr-F.InstanceOf at x classes) = another (x.fits && each classes)
facts_by (Expr-F.Run at x more) = another (x.fits && list_all operand_fits more)
facts_by (Expr-F.Pair at op x y) = another (x.fits && y.fits)
facts_by (Expr-F.Ternary at x y z) = another (x.fits && (y.fits && z.fits))
facts_by (Expr-F.ShortTernary at x more) = another (x.fits && all_fit more)
facts_by (Expr-F.Assign at op x y) = another (x.is_written && (x.fits && y.fits))
facts_by (Expr-F.AssignReference at x y ampersand) = another (x.is_written && (x.fits && y.fits))
facts_by (Expr-F.Destructure at items x) = another (each items && x.fits)
facts_by (Expr-F.NamedArgument at name x) = another x.fits

unfoldable pub facts : Expr → Facts
facts = fold-Expr Bool Facts Bool Bool StepFacts Bool class_fits_by facts_by item_fits_by name_fits_by step_facts_by part_fits_by

-- whether all nodes of an expression are as they should be
abbrev pub expression_fits : Expr → Bool
expression_fits x = (facts x).fits

-- what `unset` takes
abbrev pub written_fits : Expr → Bool
written_fits x = (facts x).is_written && expression_fits x

-- ---- statements

-- a value that is there before anything runs
abbrev pub constant_fits : Expr → Bool
constant_fits x = is_constant x && expression_fits x

abbrev pub maybe_fits : {A : Type 0} → (A → Bool) → Option A → Bool
maybe_fits f None = true
maybe_fits f (Some x) = f x

abbrev pub constant_item_fits : ConstantItem → Bool
constant_item_fits i = constant_fits i.value

abbrev pub property_fits : PropertyItem → Bool
property_fits i = maybe_fits constant_fits i.value

abbrev pub static_fits : StaticVariable → Bool
static_fits v = maybe_fits constant_fits v.value

abbrev pub param_fits : Param → Bool
param_fits p = maybe_fits constant_fits p.default

-- each is given whether its parts fit
abbrev pub function_fits_by : Function-F Bool Bool Bool Bool Bool Bool → Bool
function_fits_by f = list_all param_fits f.params && each f.body

abbrev pub class_declaration_fits_by : Class-F Bool Bool Bool Bool Bool Bool → Bool
class_declaration_fits_by c = each c.members

abbrev pub member_fits_by : Member-F Bool Bool Bool Bool Bool Bool → Bool
member_fits_by (Member-F.Constants at mods items) = list_all constant_item_fits items
member_fits_by (Member-F.Properties at mods ty items) = list_all property_fits items
member_fits_by (Member-F.Method at mods f) = f

abbrev pub case_fits_by : Case-F Bool Bool Bool Bool Bool Bool → Bool
case_fits_by c = maybe_fits expression_fits c.test && each c.body

abbrev pub else_if_fits_by : ElseIf-F Bool Bool Bool Bool Bool Bool → Bool
else_if_fits_by b = expression_fits b.test && b.body

abbrev pub statement_fits_by : Statement-F Bool Bool Bool Bool Bool Bool → Bool
statement_fits_by (Statement-F.Empty at) = true
statement_fits_by (Statement-F.InlineText at bytes) = true
statement_fits_by (Statement-F.Block at body) = each body
statement_fits_by (Statement-F.Expression at x) = expression_fits x
statement_fits_by (Statement-F.Function f) = f
statement_fits_by (Statement-F.Class c) = c
statement_fits_by (Statement-F.If at x body more other) = expression_fits x && (body && (each more && maybe_fits (λ b. b) other))
statement_fits_by (Statement-F.While at x body) = expression_fits x && body
statement_fits_by (Statement-F.DoWhile at body x) = body && expression_fits x
statement_fits_by (Statement-F.For at init test step body) =
    list_all expression_fits init && (list_all expression_fits test && (list_all expression_fits step && body))
statement_fits_by (Statement-F.Foreach at x key value body) = expression_fits x && body
statement_fits_by (Statement-F.Switch at x cases) = expression_fits x && each cases
statement_fits_by (Statement-F.Break at levels) = true
statement_fits_by (Statement-F.Continue at levels) = true
statement_fits_by (Statement-F.Return at value) = maybe_fits expression_fits value
statement_fits_by (Statement-F.Echo at xs) = list_all expression_fits xs
statement_fits_by (Statement-F.Global at names) = true
statement_fits_by (Statement-F.Static at variables) = list_all static_fits variables
statement_fits_by (Statement-F.Unset at paths) = list_all written_fits paths
statement_fits_by (Statement-F.Const at items) = list_all constant_item_fits items

unfoldable pub statement_fits : Statement → Bool
statement_fits = fold-Statement Bool Bool Bool Bool Bool Bool
    member_fits_by statement_fits_by class_declaration_fits_by function_fits_by case_fits_by else_if_fits_by

abbrev pub tree_fits : FileTree → Bool
tree_fits tree = list_all statement_fits tree.statements
