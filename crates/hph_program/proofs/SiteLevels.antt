-- One level of numbering: a node with its sites numbered is given by its parts with theirs.
use Rattle.std.specs.Prelude.{◌≡◌, ℕ}
use Rattle.hph_ast.specs.declared.expr.Expr.{Expr, roll-Expr}
use Rattle.hph_ast.specs.declared.expr.ClassReference.{ClassReference, roll-ClassReference}
use Rattle.hph_ast.specs.declared.expr.Item.{Item, roll-Item}
use Rattle.hph_ast.specs.declared.expr.MemberName.{MemberName, roll-MemberName}
use Rattle.hph_ast.specs.declared.expr.Step.{Step, roll-Step}
use Rattle.hph_ast.specs.declared.expr.StringPart.{StringPart, roll-StringPart}
use Rattle.hph_ast.specs.declared.expr.ClassReference.TheFolds.{fold-ClassReference, fold-MemberName, fold-Step, fold-StringPart, fold-roll-ClassReference, fold-roll-Expr, fold-roll-Item, fold-roll-MemberName, fold-roll-Step, fold-roll-StringPart, map-ClassReference, map-Expr, map-Item, map-MemberName, map-Step, map-StringPart}
use Rattle.hph_ast.specs.declared.stmt.Statement.{Statement, roll-Statement}
use Rattle.hph_ast.specs.declared.stmt.Case.{Case, roll-Case}
use Rattle.hph_ast.specs.declared.stmt.ElseIf.{ElseIf, roll-ElseIf}
use Rattle.hph_ast.specs.declared.function.Function.{Function, roll-Function}
use Rattle.hph_ast.specs.declared.class.Class.{Class, roll-Class}
use Rattle.hph_ast.specs.declared.class.Member.{Member, roll-Member}
use Rattle.hph_ast.specs.declared.class.Member.TheOpen.{Member-F, Statement-F, Class-F, Function-F, Case-F, ElseIf-F}
use Rattle.hph_ast.specs.declared.class.Member.TheFolds.{fold-Member, fold-Class, fold-Function, fold-Case, fold-ElseIf, fold-roll-Member, fold-roll-Statement, fold-roll-Class, fold-roll-Function, fold-roll-Case, fold-roll-ElseIf, map-Member, map-Statement, map-Class, map-Function, map-Case, map-ElseIf}
use Rattle.hph_ast.specs.Layers.{ExprLayer, ClassLayer, ItemLayer, MemberLayer, StepLayer, PartLayer}
use Rattle.hph_program.specs.Sites.{Numbered}
use Rattle.hph_program.specs.Sites as sites

-- ---- expressions

unfoldable pub class_reference : ClassReference → Numbered ClassReference
class_reference = fold-ClassReference (Numbered ClassReference) (Numbered Expr) (Numbered Item) (Numbered MemberName) (Numbered Step) (Numbered StringPart)
    sites.class_by sites.expression_by sites.item_by sites.member_name_by sites.step_by sites.part_by

unfoldable pub member_name : MemberName → Numbered MemberName
member_name = fold-MemberName (Numbered ClassReference) (Numbered Expr) (Numbered Item) (Numbered MemberName) (Numbered Step) (Numbered StringPart)
    sites.class_by sites.expression_by sites.item_by sites.member_name_by sites.step_by sites.part_by

unfoldable pub step : Step → Numbered Step
step = fold-Step (Numbered ClassReference) (Numbered Expr) (Numbered Item) (Numbered MemberName) (Numbered Step) (Numbered StringPart)
    sites.class_by sites.expression_by sites.item_by sites.member_name_by sites.step_by sites.part_by

unfoldable pub part : StringPart → Numbered StringPart
part = fold-StringPart (Numbered ClassReference) (Numbered Expr) (Numbered Item) (Numbered MemberName) (Numbered Step) (Numbered StringPart)
    sites.class_by sites.expression_by sites.item_by sites.member_name_by sites.step_by sites.part_by

pub class_reference_rolled : (d : ClassLayer) (n : ℕ) → class_reference (roll-ClassReference d) n ≡ sites.class_by (map-ClassReference ClassReference Expr Item MemberName Step StringPart
    (Numbered ClassReference) (Numbered Expr) (Numbered Item) (Numbered MemberName) (Numbered Step) (Numbered StringPart)
    class_reference sites.expression sites.item member_name step part d) n
unfolding sites.expression sites.item class_reference member_name step part
class_reference_rolled d n = λ i. fold-roll-ClassReference
    (Numbered ClassReference) (Numbered Expr) (Numbered Item) (Numbered MemberName) (Numbered Step) (Numbered StringPart)
    sites.class_by sites.expression_by sites.item_by sites.member_name_by sites.step_by sites.part_by d i n

pub expression_rolled : (d : ExprLayer) (n : ℕ) → sites.expression (roll-Expr d) n ≡ sites.expression_by (map-Expr ClassReference Expr Item MemberName Step StringPart
    (Numbered ClassReference) (Numbered Expr) (Numbered Item) (Numbered MemberName) (Numbered Step) (Numbered StringPart)
    class_reference sites.expression sites.item member_name step part d) n
unfolding sites.expression sites.item class_reference member_name step part
expression_rolled d n = λ i. fold-roll-Expr
    (Numbered ClassReference) (Numbered Expr) (Numbered Item) (Numbered MemberName) (Numbered Step) (Numbered StringPart)
    sites.class_by sites.expression_by sites.item_by sites.member_name_by sites.step_by sites.part_by d i n

pub item_rolled : (d : ItemLayer) (n : ℕ) → sites.item (roll-Item d) n ≡ sites.item_by (map-Item ClassReference Expr Item MemberName Step StringPart
    (Numbered ClassReference) (Numbered Expr) (Numbered Item) (Numbered MemberName) (Numbered Step) (Numbered StringPart)
    class_reference sites.expression sites.item member_name step part d) n
unfolding sites.expression sites.item class_reference member_name step part
item_rolled d n = λ i. fold-roll-Item
    (Numbered ClassReference) (Numbered Expr) (Numbered Item) (Numbered MemberName) (Numbered Step) (Numbered StringPart)
    sites.class_by sites.expression_by sites.item_by sites.member_name_by sites.step_by sites.part_by d i n

pub member_name_rolled : (d : MemberLayer) (n : ℕ) → member_name (roll-MemberName d) n ≡ sites.member_name_by (map-MemberName ClassReference Expr Item MemberName Step StringPart
    (Numbered ClassReference) (Numbered Expr) (Numbered Item) (Numbered MemberName) (Numbered Step) (Numbered StringPart)
    class_reference sites.expression sites.item member_name step part d) n
unfolding sites.expression sites.item class_reference member_name step part
member_name_rolled d n = λ i. fold-roll-MemberName
    (Numbered ClassReference) (Numbered Expr) (Numbered Item) (Numbered MemberName) (Numbered Step) (Numbered StringPart)
    sites.class_by sites.expression_by sites.item_by sites.member_name_by sites.step_by sites.part_by d i n

pub step_rolled : (d : StepLayer) (n : ℕ) → step (roll-Step d) n ≡ sites.step_by (map-Step ClassReference Expr Item MemberName Step StringPart
    (Numbered ClassReference) (Numbered Expr) (Numbered Item) (Numbered MemberName) (Numbered Step) (Numbered StringPart)
    class_reference sites.expression sites.item member_name step part d) n
unfolding sites.expression sites.item class_reference member_name step part
step_rolled d n = λ i. fold-roll-Step
    (Numbered ClassReference) (Numbered Expr) (Numbered Item) (Numbered MemberName) (Numbered Step) (Numbered StringPart)
    sites.class_by sites.expression_by sites.item_by sites.member_name_by sites.step_by sites.part_by d i n

pub part_rolled : (d : PartLayer) (n : ℕ) → part (roll-StringPart d) n ≡ sites.part_by (map-StringPart ClassReference Expr Item MemberName Step StringPart
    (Numbered ClassReference) (Numbered Expr) (Numbered Item) (Numbered MemberName) (Numbered Step) (Numbered StringPart)
    class_reference sites.expression sites.item member_name step part d) n
unfolding sites.expression sites.item class_reference member_name step part
part_rolled d n = λ i. fold-roll-StringPart
    (Numbered ClassReference) (Numbered Expr) (Numbered Item) (Numbered MemberName) (Numbered Step) (Numbered StringPart)
    sites.class_by sites.expression_by sites.item_by sites.member_name_by sites.step_by sites.part_by d i n

-- ---- statements

unfoldable pub member : Member → Numbered Member
member = fold-Member (Numbered Member) (Numbered Statement) (Numbered Class) (Numbered Function) (Numbered Case) (Numbered ElseIf)
    sites.member_by sites.statement_by sites.class_declaration_by sites.function_by sites.case_by sites.else_if_by

unfoldable pub class : Class → Numbered Class
class = fold-Class (Numbered Member) (Numbered Statement) (Numbered Class) (Numbered Function) (Numbered Case) (Numbered ElseIf)
    sites.member_by sites.statement_by sites.class_declaration_by sites.function_by sites.case_by sites.else_if_by

unfoldable pub function : Function → Numbered Function
function = fold-Function (Numbered Member) (Numbered Statement) (Numbered Class) (Numbered Function) (Numbered Case) (Numbered ElseIf)
    sites.member_by sites.statement_by sites.class_declaration_by sites.function_by sites.case_by sites.else_if_by

unfoldable pub case : Case → Numbered Case
case = fold-Case (Numbered Member) (Numbered Statement) (Numbered Class) (Numbered Function) (Numbered Case) (Numbered ElseIf)
    sites.member_by sites.statement_by sites.class_declaration_by sites.function_by sites.case_by sites.else_if_by

unfoldable pub else_if : ElseIf → Numbered ElseIf
else_if = fold-ElseIf (Numbered Member) (Numbered Statement) (Numbered Class) (Numbered Function) (Numbered Case) (Numbered ElseIf)
    sites.member_by sites.statement_by sites.class_declaration_by sites.function_by sites.case_by sites.else_if_by

pub member_rolled : (d : Member-F Member Statement Class Function Case ElseIf) (n : ℕ) → member (roll-Member d) n ≡ sites.member_by (map-Member Member Statement Class Function Case ElseIf
    (Numbered Member) (Numbered Statement) (Numbered Class) (Numbered Function) (Numbered Case) (Numbered ElseIf)
    member sites.statement class function case else_if d) n
unfolding sites.statement member class function case else_if
member_rolled d n = λ i. fold-roll-Member
    (Numbered Member) (Numbered Statement) (Numbered Class) (Numbered Function) (Numbered Case) (Numbered ElseIf)
    sites.member_by sites.statement_by sites.class_declaration_by sites.function_by sites.case_by sites.else_if_by d i n

pub statement_rolled : (d : Statement-F Member Statement Class Function Case ElseIf) (n : ℕ) → sites.statement (roll-Statement d) n ≡ sites.statement_by (map-Statement Member Statement Class Function Case ElseIf
    (Numbered Member) (Numbered Statement) (Numbered Class) (Numbered Function) (Numbered Case) (Numbered ElseIf)
    member sites.statement class function case else_if d) n
unfolding sites.statement member class function case else_if
statement_rolled d n = λ i. fold-roll-Statement
    (Numbered Member) (Numbered Statement) (Numbered Class) (Numbered Function) (Numbered Case) (Numbered ElseIf)
    sites.member_by sites.statement_by sites.class_declaration_by sites.function_by sites.case_by sites.else_if_by d i n

pub class_rolled : (d : Class-F Member Statement Class Function Case ElseIf) (n : ℕ) → class (roll-Class d) n ≡ sites.class_declaration_by (map-Class Member Statement Class Function Case ElseIf
    (Numbered Member) (Numbered Statement) (Numbered Class) (Numbered Function) (Numbered Case) (Numbered ElseIf)
    member sites.statement class function case else_if d) n
unfolding sites.statement member class function case else_if
class_rolled d n = λ i. fold-roll-Class
    (Numbered Member) (Numbered Statement) (Numbered Class) (Numbered Function) (Numbered Case) (Numbered ElseIf)
    sites.member_by sites.statement_by sites.class_declaration_by sites.function_by sites.case_by sites.else_if_by d i n

pub function_rolled : (d : Function-F Member Statement Class Function Case ElseIf) (n : ℕ) → function (roll-Function d) n ≡ sites.function_by (map-Function Member Statement Class Function Case ElseIf
    (Numbered Member) (Numbered Statement) (Numbered Class) (Numbered Function) (Numbered Case) (Numbered ElseIf)
    member sites.statement class function case else_if d) n
unfolding sites.statement member class function case else_if
function_rolled d n = λ i. fold-roll-Function
    (Numbered Member) (Numbered Statement) (Numbered Class) (Numbered Function) (Numbered Case) (Numbered ElseIf)
    sites.member_by sites.statement_by sites.class_declaration_by sites.function_by sites.case_by sites.else_if_by d i n

pub case_rolled : (d : Case-F Member Statement Class Function Case ElseIf) (n : ℕ) → case (roll-Case d) n ≡ sites.case_by (map-Case Member Statement Class Function Case ElseIf
    (Numbered Member) (Numbered Statement) (Numbered Class) (Numbered Function) (Numbered Case) (Numbered ElseIf)
    member sites.statement class function case else_if d) n
unfolding sites.statement member class function case else_if
case_rolled d n = λ i. fold-roll-Case
    (Numbered Member) (Numbered Statement) (Numbered Class) (Numbered Function) (Numbered Case) (Numbered ElseIf)
    sites.member_by sites.statement_by sites.class_declaration_by sites.function_by sites.case_by sites.else_if_by d i n

pub else_if_rolled : (d : ElseIf-F Member Statement Class Function Case ElseIf) (n : ℕ) → else_if (roll-ElseIf d) n ≡ sites.else_if_by (map-ElseIf Member Statement Class Function Case ElseIf
    (Numbered Member) (Numbered Statement) (Numbered Class) (Numbered Function) (Numbered Case) (Numbered ElseIf)
    member sites.statement class function case else_if d) n
unfolding sites.statement member class function case else_if
else_if_rolled d n = λ i. fold-roll-ElseIf
    (Numbered Member) (Numbered Statement) (Numbered Class) (Numbered Function) (Numbered Case) (Numbered ElseIf)
    sites.member_by sites.statement_by sites.class_declaration_by sites.function_by sites.case_by sites.else_if_by d i n
