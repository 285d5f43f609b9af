-- Words for the forms of expressions, in which programs are written.
use Rattle.std.specs.Prelude.{ℕ, List}
use Rattle.hph_ast.specs.declared.expr.ClassReference.TheOpen.{ClassReference-F, Expr-F, Item-F, MemberName-F, Step-F, StringPart-F}
use Rattle.hph_ast.specs.declared.operator.Binary.{Binary}
use Rattle.hph_ast.specs.declared.operator.Prefix.{Prefix}
use Rattle.hph_ast.specs.declared.operator.Assignment.{Assignment}
use Rattle.hph_ast.specs.declared.expr.Update.{Update}
use Rattle.hph_ast.specs.declared.expr.ArrayForm.TheVariants as form
use Rattle.hph_php.specs.State.{Name}
use Rattle.hph_facts.proofs.KnownExpressions.{at0, KnownExpression, KnownClass, KnownItem, KnownStep, KnownPart, expression, class, item, member, step, part}

abbrev pub int : ℕ → KnownExpression
int n = expression (Expr-F.Int at0 n)

abbrev pub text : List ℕ → KnownExpression
text bytes = expression (Expr-F.Text at0 bytes)

abbrev pub var : Name → KnownExpression
var name = expression (Expr-F.Variable at0 name)

abbrev pub constant : Name → KnownExpression
constant name = expression (Expr-F.Constant at0 name)

-- `__DIR__`
abbrev pub directory : KnownExpression
directory = expression (Expr-F.Directory at0)

abbrev pub array : List KnownItem → KnownExpression
array items = expression (Expr-F.Array at0 form.Short items)

abbrev pub long_array : List KnownItem → KnownExpression
long_array items = expression (Expr-F.Array at0 form.Long items)

abbrev pub call : Name → List KnownExpression → KnownExpression
call name xs = expression (Expr-F.Call at0 name xs)

abbrev pub static_call : KnownClass → Name → List KnownExpression → KnownExpression
static_call c name xs = expression (Expr-F.StaticCall at0 c (member (MemberName-F.Named name)) xs)

abbrev pub method_call : KnownExpression → Name → List KnownExpression → KnownExpression
method_call x name xs = expression (Expr-F.MethodCall at0 x (member (MemberName-F.Named name)) xs)

abbrev pub new : KnownClass → List KnownExpression → KnownExpression
new c xs = expression (Expr-F.New at0 c xs)

abbrev pub class_constant : KnownClass → Name → KnownExpression
class_constant c name = expression (Expr-F.ClassConstant at0 c name)

abbrev pub static_property : KnownClass → Name → KnownExpression
static_property c name = expression (Expr-F.StaticProperty at0 c name)

abbrev pub paren : KnownExpression → KnownExpression
paren x = expression (Expr-F.Paren at0 x)

abbrev pub isset : List KnownExpression → KnownExpression
isset xs = expression (Expr-F.Isset at0 xs)

abbrev pub is_empty : KnownExpression → KnownExpression
is_empty x = expression (Expr-F.Empty at0 x)

abbrev pub exit : KnownExpression
exit = expression (Expr-F.Exit at0)

abbrev pub exit_with : KnownExpression → KnownExpression
exit_with x = expression (Expr-F.ExitWith at0 x)

abbrev pub along : KnownExpression → List KnownStep → KnownExpression
along x steps = expression (Expr-F.Path at0 x steps)

abbrev pub update : Update → KnownExpression → KnownExpression
update form x = expression (Expr-F.Update at0 form x)

abbrev pub prefix : Prefix → KnownExpression → KnownExpression
prefix op x = expression (Expr-F.Prefix at0 op x)

abbrev pub instance_of : KnownExpression → List KnownClass → KnownExpression
instance_of x cs = expression (Expr-F.InstanceOf at0 x cs)

-- operators of one level, from the left
abbrev pub run : KnownExpression → List (Binary × KnownExpression) → KnownExpression
run x more = expression (Expr-F.Run at0 x more)

abbrev pub pair : Binary → KnownExpression → KnownExpression → KnownExpression
pair op x y = expression (Expr-F.Pair at0 op x y)

abbrev pub ternary : KnownExpression → KnownExpression → KnownExpression → KnownExpression
ternary x y z = expression (Expr-F.Ternary at0 x y z)

abbrev pub short_ternary : KnownExpression → List KnownExpression → KnownExpression
short_ternary x more = expression (Expr-F.ShortTernary at0 x more)

abbrev pub assign : Assignment → KnownExpression → KnownExpression → KnownExpression
assign op x y = expression (Expr-F.Assign at0 op x y)

-- `x =& y`
abbrev pub refer : KnownExpression → KnownExpression → KnownExpression
refer x y = expression (Expr-F.AssignReference at0 x y 0)

abbrev pub interpolated : List KnownPart → KnownExpression
interpolated parts = expression (Expr-F.Interpolated at0 parts)

abbrev pub piece : List ℕ → KnownPart
piece bytes = part (StringPart-F.Piece at0 bytes)

abbrev pub interpolation : KnownExpression → KnownPart
interpolation x = part (StringPart-F.Interpolation x)

abbrev pub element : KnownExpression → KnownItem
element x = item (Item-F.Plain at0 x)

abbrev pub keyed : KnownExpression → KnownExpression → KnownItem
keyed k x = item (Item-F.Keyed at0 k x)

abbrev pub index : KnownExpression → KnownStep
index x = step (Step-F.Index at0 x)

-- `[]`
abbrev pub last : KnownStep
last = step (Step-F.Append at0)

abbrev pub property : Name → KnownStep
property name = step (Step-F.Property at0 (member (MemberName-F.Named name)))

abbrev pub by_name : Name → KnownClass
by_name name = class (ClassReference-F.ByName at0 name)

abbrev pub self_class : KnownClass
self_class = class (ClassReference-F.SelfClass at0)

abbrev pub parent_class : KnownClass
parent_class = class (ClassReference-F.Parent at0)

abbrev pub static_class : KnownClass
static_class = class (ClassReference-F.Static at0)
