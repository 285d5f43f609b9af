-- One level of what trees mean: that of a node is given by what its parts mean.
use Rattle.std.specs.Prelude.{◌≡◌, ℕ}
use Rattle.hph_ast.specs.declared.expr.Expr.{Expr, roll-Expr}
use Rattle.hph_ast.specs.declared.expr.ClassReference.{ClassReference, roll-ClassReference}
use Rattle.hph_ast.specs.declared.expr.Item.{Item, roll-Item}
use Rattle.hph_ast.specs.declared.expr.MemberName.{MemberName, roll-MemberName}
use Rattle.hph_ast.specs.declared.expr.Step.{Step, roll-Step}
use Rattle.hph_ast.specs.declared.expr.StringPart.{StringPart, roll-StringPart}
use Rattle.hph_ast.specs.declared.expr.ClassReference.TheFolds.{fold-ClassReference, fold-Item, fold-MemberName, fold-Step, fold-StringPart, fold-roll-ClassReference, fold-roll-Expr, fold-roll-Item, fold-roll-MemberName, fold-roll-Step, fold-roll-StringPart, map-ClassReference, map-Expr, map-Item, map-MemberName, map-Step, map-StringPart}
use Rattle.hph_ast.specs.declared.expr.ClassReference.TheOpen.{ClassReference-F, Expr-F, Item-F, MemberName-F, Step-F, StringPart-F}
use Rattle.hph_ast.specs.Layers.{ExprLayer, ClassLayer, ItemLayer, MemberLayer, StepLayer, PartLayer}
use Rattle.hph_ast.specs.declared.stmt.Statement.{Statement, roll-Statement}
use Rattle.hph_ast.specs.declared.stmt.Case.{Case, roll-Case}
use Rattle.hph_ast.specs.declared.stmt.ElseIf.{ElseIf, roll-ElseIf}
use Rattle.hph_ast.specs.declared.function.Function.{Function, roll-Function}
use Rattle.hph_ast.specs.declared.class.Class.{Class, roll-Class}
use Rattle.hph_ast.specs.declared.class.Member.{Member}
use Rattle.hph_ast.specs.declared.class.Member.TheOpen.{Statement-F, Class-F, Function-F, Case-F, ElseIf-F}
use Rattle.hph_ast.specs.declared.class.Member.TheFolds.{fold-Member, fold-Class, fold-Function, fold-Case, fold-ElseIf, fold-roll-Statement, fold-roll-Function, fold-roll-Case, fold-roll-ElseIf, fold-roll-Class, map-Statement, map-Function, map-Case, map-ElseIf, map-Class}
use Rattle.hph_php.specs.Answers.{Means}
use Rattle.hph_php.specs.Values.{Value}
use Rattle.hph_php.specs.State.{Name}
use Rattle.hph_php.specs.Paths.{PathStep}
use Rattle.hph_php.specs.World.{World, Context}
use Rattle.hph_php.specs.Targets.{Reading}
use Rattle.hph_php.specs.Classes.{ClassChoice}
use Rattle.hph_php.specs.Expressions.{reading, reading_by, class_by, item_by, member_by, step_by, part_by}
use Rattle.hph_php.specs.Expressions as x
use Rattle.hph_php.specs.Statements.{Way}
use Rattle.hph_php.specs.Statements as s
use Rattle.hph_php.specs.Executions.{Place, execute, statement_by}
use Rattle.hph_php.specs.Executions as ex

module _ (world : World) (context : Context) where
  unfoldable pub class_meaning : ClassReference → ClassChoice
  class_meaning = fold-ClassReference
      ClassChoice Reading (x.Elements world context) Name (Means PathStep) (x.Pieces world context)
      (class_by world context) (reading_by world context) (item_by world context)
      (member_by world context) (step_by world context) (part_by world context)

  unfoldable pub item_meaning : Item → x.Elements world context
  item_meaning = fold-Item
      ClassChoice Reading (x.Elements world context) Name (Means PathStep) (x.Pieces world context)
      (class_by world context) (reading_by world context) (item_by world context)
      (member_by world context) (step_by world context) (part_by world context)

  unfoldable pub member_meaning : MemberName → Name
  member_meaning = fold-MemberName
      ClassChoice Reading (x.Elements world context) Name (Means PathStep) (x.Pieces world context)
      (class_by world context) (reading_by world context) (item_by world context)
      (member_by world context) (step_by world context) (part_by world context)

  unfoldable pub step_meaning : Step → Means PathStep
  step_meaning = fold-Step
      ClassChoice Reading (x.Elements world context) Name (Means PathStep) (x.Pieces world context)
      (class_by world context) (reading_by world context) (item_by world context)
      (member_by world context) (step_by world context) (part_by world context)

  unfoldable pub part_meaning : StringPart → x.Pieces world context
  part_meaning = fold-StringPart
      ClassChoice Reading (x.Elements world context) Name (Means PathStep) (x.Pieces world context)
      (class_by world context) (reading_by world context) (item_by world context)
      (member_by world context) (step_by world context) (part_by world context)

  -- what the parts of one level mean

  abbrev pub class_meant : ClassLayer → ClassReference-F ClassChoice Reading (x.Elements world context) Name (Means PathStep) (x.Pieces world context)
  class_meant d = map-ClassReference ClassReference Expr Item MemberName Step StringPart
      ClassChoice Reading (x.Elements world context) Name (Means PathStep) (x.Pieces world context)
      class_meaning (reading world context) item_meaning member_meaning step_meaning part_meaning d

  abbrev pub expr_meant : ExprLayer → Expr-F ClassChoice Reading (x.Elements world context) Name (Means PathStep) (x.Pieces world context)
  expr_meant d = map-Expr ClassReference Expr Item MemberName Step StringPart
      ClassChoice Reading (x.Elements world context) Name (Means PathStep) (x.Pieces world context)
      class_meaning (reading world context) item_meaning member_meaning step_meaning part_meaning d

  abbrev pub item_meant : ItemLayer → Item-F ClassChoice Reading (x.Elements world context) Name (Means PathStep) (x.Pieces world context)
  item_meant d = map-Item ClassReference Expr Item MemberName Step StringPart
      ClassChoice Reading (x.Elements world context) Name (Means PathStep) (x.Pieces world context)
      class_meaning (reading world context) item_meaning member_meaning step_meaning part_meaning d

  abbrev pub member_meant : MemberLayer → MemberName-F ClassChoice Reading (x.Elements world context) Name (Means PathStep) (x.Pieces world context)
  member_meant d = map-MemberName ClassReference Expr Item MemberName Step StringPart
      ClassChoice Reading (x.Elements world context) Name (Means PathStep) (x.Pieces world context)
      class_meaning (reading world context) item_meaning member_meaning step_meaning part_meaning d

  abbrev pub step_meant : StepLayer → Step-F ClassChoice Reading (x.Elements world context) Name (Means PathStep) (x.Pieces world context)
  step_meant d = map-Step ClassReference Expr Item MemberName Step StringPart
      ClassChoice Reading (x.Elements world context) Name (Means PathStep) (x.Pieces world context)
      class_meaning (reading world context) item_meaning member_meaning step_meaning part_meaning d

  abbrev pub part_meant : PartLayer → StringPart-F ClassChoice Reading (x.Elements world context) Name (Means PathStep) (x.Pieces world context)
  part_meant d = map-StringPart ClassReference Expr Item MemberName Step StringPart
      ClassChoice Reading (x.Elements world context) Name (Means PathStep) (x.Pieces world context)
      class_meaning (reading world context) item_meaning member_meaning step_meaning part_meaning d

  pub class_rolled : (d : ClassLayer) → class_meaning (roll-ClassReference d) ≡ class_by world context (class_meant d)
  unfolding reading class_meaning item_meaning member_meaning step_meaning part_meaning
  class_rolled d = fold-roll-ClassReference
      ClassChoice Reading (x.Elements world context) Name (Means PathStep) (x.Pieces world context)
      (class_by world context) (reading_by world context) (item_by world context)
      (member_by world context) (step_by world context) (part_by world context) d

  pub reading_rolled : (d : ExprLayer) → reading world context (roll-Expr d) ≡ reading_by world context (expr_meant d)
  unfolding reading class_meaning item_meaning member_meaning step_meaning part_meaning
  reading_rolled d = fold-roll-Expr
      ClassChoice Reading (x.Elements world context) Name (Means PathStep) (x.Pieces world context)
      (class_by world context) (reading_by world context) (item_by world context)
      (member_by world context) (step_by world context) (part_by world context) d

  pub item_rolled : (d : ItemLayer) → item_meaning (roll-Item d) ≡ item_by world context (item_meant d)
  unfolding reading class_meaning item_meaning member_meaning step_meaning part_meaning
  item_rolled d = fold-roll-Item
      ClassChoice Reading (x.Elements world context) Name (Means PathStep) (x.Pieces world context)
      (class_by world context) (reading_by world context) (item_by world context)
      (member_by world context) (step_by world context) (part_by world context) d

  pub member_rolled : (d : MemberLayer) → member_meaning (roll-MemberName d) ≡ member_by world context (member_meant d)
  unfolding reading class_meaning item_meaning member_meaning step_meaning part_meaning
  member_rolled d = fold-roll-MemberName
      ClassChoice Reading (x.Elements world context) Name (Means PathStep) (x.Pieces world context)
      (class_by world context) (reading_by world context) (item_by world context)
      (member_by world context) (step_by world context) (part_by world context) d

  pub step_rolled : (d : StepLayer) → step_meaning (roll-Step d) ≡ step_by world context (step_meant d)
  unfolding reading class_meaning item_meaning member_meaning step_meaning part_meaning
  step_rolled d = fold-roll-Step
      ClassChoice Reading (x.Elements world context) Name (Means PathStep) (x.Pieces world context)
      (class_by world context) (reading_by world context) (item_by world context)
      (member_by world context) (step_by world context) (part_by world context) d

  pub part_rolled : (d : PartLayer) → part_meaning (roll-StringPart d) ≡ part_by world context (part_meant d)
  unfolding reading class_meaning item_meaning member_meaning step_meaning part_meaning
  part_rolled d = fold-roll-StringPart
      ClassChoice Reading (x.Elements world context) Name (Means PathStep) (x.Pieces world context)
      (class_by world context) (reading_by world context) (item_by world context)
      (member_by world context) (step_by world context) (part_by world context) d

  unfoldable pub member_place : Member → Unit {0}
  member_place = fold-Member
      (Unit {0}) (Means Way) ℕ Place s.Case (Means Value × Means Way)
      (ex.member_by world context) (statement_by world context) (ex.class_by world context)
      (ex.function_by world context) (ex.case_by world context) (ex.else_if_by world context)

  unfoldable pub class_place : Class → ℕ
  class_place = fold-Class
      (Unit {0}) (Means Way) ℕ Place s.Case (Means Value × Means Way)
      (ex.member_by world context) (statement_by world context) (ex.class_by world context)
      (ex.function_by world context) (ex.case_by world context) (ex.else_if_by world context)

  unfoldable pub function_place : Function → Place
  function_place = fold-Function
      (Unit {0}) (Means Way) ℕ Place s.Case (Means Value × Means Way)
      (ex.member_by world context) (statement_by world context) (ex.class_by world context)
      (ex.function_by world context) (ex.case_by world context) (ex.else_if_by world context)

  unfoldable pub case_meaning : Case → s.Case
  case_meaning = fold-Case
      (Unit {0}) (Means Way) ℕ Place s.Case (Means Value × Means Way)
      (ex.member_by world context) (statement_by world context) (ex.class_by world context)
      (ex.function_by world context) (ex.case_by world context) (ex.else_if_by world context)

  unfoldable pub branch_meaning : ElseIf → Means Value × Means Way
  branch_meaning = fold-ElseIf
      (Unit {0}) (Means Way) ℕ Place s.Case (Means Value × Means Way)
      (ex.member_by world context) (statement_by world context) (ex.class_by world context)
      (ex.function_by world context) (ex.case_by world context) (ex.else_if_by world context)

  abbrev pub statement_parts : Statement-F Member Statement Class Function Case ElseIf → Statement-F (Unit {0}) (Means Way) ℕ Place s.Case (Means Value × Means Way)
  statement_parts d = map-Statement Member Statement Class Function Case ElseIf
      (Unit {0}) (Means Way) ℕ Place s.Case (Means Value × Means Way)
      member_place (execute world context) class_place function_place case_meaning branch_meaning d

  abbrev pub class_place_parts : Class-F Member Statement Class Function Case ElseIf → Class-F (Unit {0}) (Means Way) ℕ Place s.Case (Means Value × Means Way)
  class_place_parts d = map-Class Member Statement Class Function Case ElseIf
      (Unit {0}) (Means Way) ℕ Place s.Case (Means Value × Means Way)
      member_place (execute world context) class_place function_place case_meaning branch_meaning d

  abbrev pub function_parts : Function-F Member Statement Class Function Case ElseIf → Function-F (Unit {0}) (Means Way) ℕ Place s.Case (Means Value × Means Way)
  function_parts d = map-Function Member Statement Class Function Case ElseIf
      (Unit {0}) (Means Way) ℕ Place s.Case (Means Value × Means Way)
      member_place (execute world context) class_place function_place case_meaning branch_meaning d

  abbrev pub case_parts : Case-F Member Statement Class Function Case ElseIf → Case-F (Unit {0}) (Means Way) ℕ Place s.Case (Means Value × Means Way)
  case_parts d = map-Case Member Statement Class Function Case ElseIf
      (Unit {0}) (Means Way) ℕ Place s.Case (Means Value × Means Way)
      member_place (execute world context) class_place function_place case_meaning branch_meaning d

  abbrev pub branch_parts : ElseIf-F Member Statement Class Function Case ElseIf → ElseIf-F (Unit {0}) (Means Way) ℕ Place s.Case (Means Value × Means Way)
  branch_parts d = map-ElseIf Member Statement Class Function Case ElseIf
      (Unit {0}) (Means Way) ℕ Place s.Case (Means Value × Means Way)
      member_place (execute world context) class_place function_place case_meaning branch_meaning d

  pub statement_rolled : (d : Statement-F Member Statement Class Function Case ElseIf) → execute world context (roll-Statement d) ≡ statement_by world context (statement_parts d)
  unfolding execute member_place class_place function_place case_meaning branch_meaning
  statement_rolled d = fold-roll-Statement
      (Unit {0}) (Means Way) ℕ Place s.Case (Means Value × Means Way)
      (ex.member_by world context) (statement_by world context) (ex.class_by world context)
      (ex.function_by world context) (ex.case_by world context) (ex.else_if_by world context) d

  pub class_place_rolled : (d : Class-F Member Statement Class Function Case ElseIf) → class_place (roll-Class d) ≡ ex.class_by world context (class_place_parts d)
  unfolding execute member_place class_place function_place case_meaning branch_meaning
  class_place_rolled d = fold-roll-Class
      (Unit {0}) (Means Way) ℕ Place s.Case (Means Value × Means Way)
      (ex.member_by world context) (statement_by world context) (ex.class_by world context)
      (ex.function_by world context) (ex.case_by world context) (ex.else_if_by world context) d

  pub function_rolled : (d : Function-F Member Statement Class Function Case ElseIf) → function_place (roll-Function d) ≡ ex.function_by world context (function_parts d)
  unfolding execute member_place class_place function_place case_meaning branch_meaning
  function_rolled d = fold-roll-Function
      (Unit {0}) (Means Way) ℕ Place s.Case (Means Value × Means Way)
      (ex.member_by world context) (statement_by world context) (ex.class_by world context)
      (ex.function_by world context) (ex.case_by world context) (ex.else_if_by world context) d

  pub case_rolled : (d : Case-F Member Statement Class Function Case ElseIf) → case_meaning (roll-Case d) ≡ ex.case_by world context (case_parts d)
  unfolding execute member_place class_place function_place case_meaning branch_meaning
  case_rolled d = fold-roll-Case
      (Unit {0}) (Means Way) ℕ Place s.Case (Means Value × Means Way)
      (ex.member_by world context) (statement_by world context) (ex.class_by world context)
      (ex.function_by world context) (ex.case_by world context) (ex.else_if_by world context) d

  pub branch_rolled : (d : ElseIf-F Member Statement Class Function Case ElseIf) → branch_meaning (roll-ElseIf d) ≡ ex.else_if_by world context (branch_parts d)
  unfolding execute member_place class_place function_place case_meaning branch_meaning
  branch_rolled d = fold-roll-ElseIf
      (Unit {0}) (Means Way) ℕ Place s.Case (Means Value × Means Way)
      (ex.member_by world context) (statement_by world context) (ex.class_by world context)
      (ex.function_by world context) (ex.case_by world context) (ex.else_if_by world context) d
