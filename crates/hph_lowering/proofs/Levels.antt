-- One level of the lowering: the code of a node is given by that of its parts.
use Rattle.std.specs.Prelude.{◌≡◌, ℕ}
use Rattle.hph_ast.specs.declared.expr.Expr.{Expr, roll-Expr}
use Rattle.hph_ast.specs.declared.expr.ClassReference.{ClassReference, roll-ClassReference}
use Rattle.hph_ast.specs.declared.expr.Item.{Item, roll-Item}
use Rattle.hph_ast.specs.declared.expr.MemberName.{MemberName, roll-MemberName}
use Rattle.hph_ast.specs.declared.expr.Step.{Step, roll-Step}
use Rattle.hph_ast.specs.declared.expr.StringPart.{StringPart, roll-StringPart}
use Rattle.hph_ast.specs.declared.expr.ClassReference.TheFolds.{fold-ClassReference, fold-Item, fold-MemberName, fold-Step, fold-StringPart, fold-roll-ClassReference, fold-roll-Expr, fold-roll-Item, fold-roll-MemberName, fold-roll-Step, fold-roll-StringPart, map-ClassReference, map-Expr, map-Item, map-MemberName, map-Step, map-StringPart}
use Rattle.hph_ast.specs.declared.expr.ClassReference.TheOpen.{ClassReference-F, Expr-F, Item-F, MemberName-F, Step-F, StringPart-F}
use Rattle.hph_ast.specs.Layers.{ExprLayer, ClassLayer, ItemLayer, MemberLayer, StepLayer, PartLayer}
use Rattle.hph_ast.specs.declared.stmt.Statement.{Statement, roll-Statement}
use Rattle.hph_ast.specs.declared.stmt.Case.{Case, roll-Case}
use Rattle.hph_ast.specs.declared.stmt.ElseIf.{ElseIf, roll-ElseIf}
use Rattle.hph_ast.specs.declared.function.Function.{Function, roll-Function}
use Rattle.hph_ast.specs.declared.class.Class.{Class, roll-Class}
use Rattle.hph_ast.specs.declared.class.Member.{Member}
use Rattle.hph_ast.specs.declared.class.Member.TheOpen.{Statement-F, Class-F, Function-F, Case-F, ElseIf-F}
use Rattle.hph_ast.specs.declared.class.Member.TheFolds.{fold-Member, fold-Class, fold-Function, fold-Case, fold-ElseIf, fold-roll-Statement, fold-roll-Function, fold-roll-Case, fold-roll-ElseIf, fold-roll-Class, map-Statement, map-Function, map-Case, map-ElseIf, map-Class}
use Rattle.hph_php.specs.State.{Name}
use Rattle.hph_plan.specs.Plan.{Plan}
use Rattle.hph_lowering.specs.Code.{Scope}
use Rattle.hph_lowering.specs.Expressions.{ClassCode, Lowered, Piece, lowered, lowered_by, class_by, item_by, member_by, step_by, part_by}
use Rattle.hph_lowering.specs.Expressions as x
use Rattle.hph_lowering.specs.Statements.{Lowers, Place, Arm, lowers, statement_by}
use Rattle.hph_lowering.specs.Statements as s

module _ (plan : Plan) (scope : Scope) where
  unfoldable pub class_code : ClassReference → ClassCode
  class_code = fold-ClassReference
      ClassCode Lowered Piece Name x.Step Piece
      (class_by plan scope) (lowered_by plan scope) (item_by plan scope)
      (member_by plan scope) (step_by plan scope) (part_by plan scope)

  unfoldable pub item_code : Item → Piece
  item_code = fold-Item
      ClassCode Lowered Piece Name x.Step Piece
      (class_by plan scope) (lowered_by plan scope) (item_by plan scope)
      (member_by plan scope) (step_by plan scope) (part_by plan scope)

  unfoldable pub member_name : MemberName → Name
  member_name = fold-MemberName
      ClassCode Lowered Piece Name x.Step Piece
      (class_by plan scope) (lowered_by plan scope) (item_by plan scope)
      (member_by plan scope) (step_by plan scope) (part_by plan scope)

  unfoldable pub step_lowered : Step → x.Step
  step_lowered = fold-Step
      ClassCode Lowered Piece Name x.Step Piece
      (class_by plan scope) (lowered_by plan scope) (item_by plan scope)
      (member_by plan scope) (step_by plan scope) (part_by plan scope)

  unfoldable pub part_code : StringPart → Piece
  part_code = fold-StringPart
      ClassCode Lowered Piece Name x.Step Piece
      (class_by plan scope) (lowered_by plan scope) (item_by plan scope)
      (member_by plan scope) (step_by plan scope) (part_by plan scope)

  -- the code of the parts of one level

  abbrev pub class_parts_lowered : ClassLayer → ClassReference-F ClassCode Lowered Piece Name x.Step Piece
  class_parts_lowered d = map-ClassReference ClassReference Expr Item MemberName Step StringPart
      ClassCode Lowered Piece Name x.Step Piece
      class_code (lowered plan scope) item_code member_name step_lowered part_code d

  abbrev pub expr_parts_lowered : ExprLayer → Expr-F ClassCode Lowered Piece Name x.Step Piece
  expr_parts_lowered d = map-Expr ClassReference Expr Item MemberName Step StringPart
      ClassCode Lowered Piece Name x.Step Piece
      class_code (lowered plan scope) item_code member_name step_lowered part_code d

  abbrev pub item_parts_lowered : ItemLayer → Item-F ClassCode Lowered Piece Name x.Step Piece
  item_parts_lowered d = map-Item ClassReference Expr Item MemberName Step StringPart
      ClassCode Lowered Piece Name x.Step Piece
      class_code (lowered plan scope) item_code member_name step_lowered part_code d

  abbrev pub member_parts_lowered : MemberLayer → MemberName-F ClassCode Lowered Piece Name x.Step Piece
  member_parts_lowered d = map-MemberName ClassReference Expr Item MemberName Step StringPart
      ClassCode Lowered Piece Name x.Step Piece
      class_code (lowered plan scope) item_code member_name step_lowered part_code d

  abbrev pub step_parts_lowered : StepLayer → Step-F ClassCode Lowered Piece Name x.Step Piece
  step_parts_lowered d = map-Step ClassReference Expr Item MemberName Step StringPart
      ClassCode Lowered Piece Name x.Step Piece
      class_code (lowered plan scope) item_code member_name step_lowered part_code d

  abbrev pub part_parts_lowered : PartLayer → StringPart-F ClassCode Lowered Piece Name x.Step Piece
  part_parts_lowered d = map-StringPart ClassReference Expr Item MemberName Step StringPart
      ClassCode Lowered Piece Name x.Step Piece
      class_code (lowered plan scope) item_code member_name step_lowered part_code d

  pub class_rolled : (d : ClassLayer) → class_code (roll-ClassReference d) ≡ class_by plan scope (class_parts_lowered d)
  unfolding lowered class_code item_code member_name step_lowered part_code
  class_rolled d = fold-roll-ClassReference
      ClassCode Lowered Piece Name x.Step Piece
      (class_by plan scope) (lowered_by plan scope) (item_by plan scope)
      (member_by plan scope) (step_by plan scope) (part_by plan scope) d

  pub lowered_rolled : (d : ExprLayer) → lowered plan scope (roll-Expr d) ≡ lowered_by plan scope (expr_parts_lowered d)
  unfolding lowered class_code item_code member_name step_lowered part_code
  lowered_rolled d = fold-roll-Expr
      ClassCode Lowered Piece Name x.Step Piece
      (class_by plan scope) (lowered_by plan scope) (item_by plan scope)
      (member_by plan scope) (step_by plan scope) (part_by plan scope) d

  pub item_rolled : (d : ItemLayer) → item_code (roll-Item d) ≡ item_by plan scope (item_parts_lowered d)
  unfolding lowered class_code item_code member_name step_lowered part_code
  item_rolled d = fold-roll-Item
      ClassCode Lowered Piece Name x.Step Piece
      (class_by plan scope) (lowered_by plan scope) (item_by plan scope)
      (member_by plan scope) (step_by plan scope) (part_by plan scope) d

  pub member_rolled : (d : MemberLayer) → member_name (roll-MemberName d) ≡ member_by plan scope (member_parts_lowered d)
  unfolding lowered class_code item_code member_name step_lowered part_code
  member_rolled d = fold-roll-MemberName
      ClassCode Lowered Piece Name x.Step Piece
      (class_by plan scope) (lowered_by plan scope) (item_by plan scope)
      (member_by plan scope) (step_by plan scope) (part_by plan scope) d

  pub step_rolled : (d : StepLayer) → step_lowered (roll-Step d) ≡ step_by plan scope (step_parts_lowered d)
  unfolding lowered class_code item_code member_name step_lowered part_code
  step_rolled d = fold-roll-Step
      ClassCode Lowered Piece Name x.Step Piece
      (class_by plan scope) (lowered_by plan scope) (item_by plan scope)
      (member_by plan scope) (step_by plan scope) (part_by plan scope) d

  pub part_rolled : (d : PartLayer) → part_code (roll-StringPart d) ≡ part_by plan scope (part_parts_lowered d)
  unfolding lowered class_code item_code member_name step_lowered part_code
  part_rolled d = fold-roll-StringPart
      ClassCode Lowered Piece Name x.Step Piece
      (class_by plan scope) (lowered_by plan scope) (item_by plan scope)
      (member_by plan scope) (step_by plan scope) (part_by plan scope) d

  unfoldable pub member_place : Member → Unit {0}
  member_place = fold-Member
      (Unit {0}) Lowers ℕ Place s.Case Arm
      (s.member_by plan scope) (statement_by plan scope) (s.class_by plan scope)
      (s.function_by plan scope) (s.case_by plan scope) (s.else_if_by plan scope)

  unfoldable pub class_place : Class → ℕ
  class_place = fold-Class
      (Unit {0}) Lowers ℕ Place s.Case Arm
      (s.member_by plan scope) (statement_by plan scope) (s.class_by plan scope)
      (s.function_by plan scope) (s.case_by plan scope) (s.else_if_by plan scope)

  unfoldable pub function_place : Function → Place
  function_place = fold-Function
      (Unit {0}) Lowers ℕ Place s.Case Arm
      (s.member_by plan scope) (statement_by plan scope) (s.class_by plan scope)
      (s.function_by plan scope) (s.case_by plan scope) (s.else_if_by plan scope)

  unfoldable pub case_code : Case → s.Case
  case_code = fold-Case
      (Unit {0}) Lowers ℕ Place s.Case Arm
      (s.member_by plan scope) (statement_by plan scope) (s.class_by plan scope)
      (s.function_by plan scope) (s.case_by plan scope) (s.else_if_by plan scope)

  unfoldable pub arm_lowered : ElseIf → Arm
  arm_lowered = fold-ElseIf
      (Unit {0}) Lowers ℕ Place s.Case Arm
      (s.member_by plan scope) (statement_by plan scope) (s.class_by plan scope)
      (s.function_by plan scope) (s.case_by plan scope) (s.else_if_by plan scope)

  abbrev pub statement_parts : Statement-F Member Statement Class Function Case ElseIf → Statement-F (Unit {0}) Lowers ℕ Place s.Case Arm
  statement_parts d = map-Statement Member Statement Class Function Case ElseIf
      (Unit {0}) Lowers ℕ Place s.Case Arm
      member_place (lowers plan scope) class_place function_place case_code arm_lowered d

  abbrev pub class_place_parts : Class-F Member Statement Class Function Case ElseIf → Class-F (Unit {0}) Lowers ℕ Place s.Case Arm
  class_place_parts d = map-Class Member Statement Class Function Case ElseIf
      (Unit {0}) Lowers ℕ Place s.Case Arm
      member_place (lowers plan scope) class_place function_place case_code arm_lowered d

  abbrev pub function_parts : Function-F Member Statement Class Function Case ElseIf → Function-F (Unit {0}) Lowers ℕ Place s.Case Arm
  function_parts d = map-Function Member Statement Class Function Case ElseIf
      (Unit {0}) Lowers ℕ Place s.Case Arm
      member_place (lowers plan scope) class_place function_place case_code arm_lowered d

  abbrev pub case_parts : Case-F Member Statement Class Function Case ElseIf → Case-F (Unit {0}) Lowers ℕ Place s.Case Arm
  case_parts d = map-Case Member Statement Class Function Case ElseIf
      (Unit {0}) Lowers ℕ Place s.Case Arm
      member_place (lowers plan scope) class_place function_place case_code arm_lowered d

  abbrev pub arm_parts : ElseIf-F Member Statement Class Function Case ElseIf → ElseIf-F (Unit {0}) Lowers ℕ Place s.Case Arm
  arm_parts d = map-ElseIf Member Statement Class Function Case ElseIf
      (Unit {0}) Lowers ℕ Place s.Case Arm
      member_place (lowers plan scope) class_place function_place case_code arm_lowered d

  pub statement_rolled : (d : Statement-F Member Statement Class Function Case ElseIf) → lowers plan scope (roll-Statement d) ≡ statement_by plan scope (statement_parts d)
  unfolding lowers member_place class_place function_place case_code arm_lowered
  statement_rolled d = fold-roll-Statement
      (Unit {0}) Lowers ℕ Place s.Case Arm
      (s.member_by plan scope) (statement_by plan scope) (s.class_by plan scope)
      (s.function_by plan scope) (s.case_by plan scope) (s.else_if_by plan scope) d

  pub class_place_rolled : (d : Class-F Member Statement Class Function Case ElseIf) → class_place (roll-Class d) ≡ s.class_by plan scope (class_place_parts d)
  unfolding lowers member_place class_place function_place case_code arm_lowered
  class_place_rolled d = fold-roll-Class
      (Unit {0}) Lowers ℕ Place s.Case Arm
      (s.member_by plan scope) (statement_by plan scope) (s.class_by plan scope)
      (s.function_by plan scope) (s.case_by plan scope) (s.else_if_by plan scope) d

  pub function_rolled : (d : Function-F Member Statement Class Function Case ElseIf) → function_place (roll-Function d) ≡ s.function_by plan scope (function_parts d)
  unfolding lowers member_place class_place function_place case_code arm_lowered
  function_rolled d = fold-roll-Function
      (Unit {0}) Lowers ℕ Place s.Case Arm
      (s.member_by plan scope) (statement_by plan scope) (s.class_by plan scope)
      (s.function_by plan scope) (s.case_by plan scope) (s.else_if_by plan scope) d

  pub case_rolled : (d : Case-F Member Statement Class Function Case ElseIf) → case_code (roll-Case d) ≡ s.case_by plan scope (case_parts d)
  unfolding lowers member_place class_place function_place case_code arm_lowered
  case_rolled d = fold-roll-Case
      (Unit {0}) Lowers ℕ Place s.Case Arm
      (s.member_by plan scope) (statement_by plan scope) (s.class_by plan scope)
      (s.function_by plan scope) (s.case_by plan scope) (s.else_if_by plan scope) d

  pub arm_rolled : (d : ElseIf-F Member Statement Class Function Case ElseIf) → arm_lowered (roll-ElseIf d) ≡ s.else_if_by plan scope (arm_parts d)
  unfolding lowers member_place class_place function_place case_code arm_lowered
  arm_rolled d = fold-roll-ElseIf
      (Unit {0}) Lowers ℕ Place s.Case Arm
      (s.member_by plan scope) (statement_by plan scope) (s.class_by plan scope)
      (s.function_by plan scope) (s.case_by plan scope) (s.else_if_by plan scope) d
