-- One level of what trees come to: the number of their nodes, their code, and whether they are covered.
use Rattle.std.specs.Prelude.{◌≡◌, ℕ, Bool}
use Rattle.hph_ast.specs.declared.expr.Expr.{Expr, roll-Expr}
use Rattle.hph_ast.specs.declared.expr.ClassReference.{ClassReference}
use Rattle.hph_ast.specs.declared.expr.Item.{Item, roll-Item}
use Rattle.hph_ast.specs.declared.expr.MemberName.{MemberName, roll-MemberName}
use Rattle.hph_ast.specs.declared.expr.Step.{Step, roll-Step}
use Rattle.hph_ast.specs.declared.expr.StringPart.{StringPart, roll-StringPart}
use Rattle.hph_ast.specs.declared.expr.ClassReference.TheFolds.{fold-ClassReference, fold-Item, fold-MemberName, fold-Step, fold-StringPart, fold-roll-Expr, fold-roll-Item, fold-roll-MemberName, fold-roll-Step, fold-roll-StringPart, map-Expr, map-Item, map-MemberName, map-Step, map-StringPart}
use Rattle.hph_ast.specs.declared.expr.ClassReference.TheOpen.{Expr-F, Item-F, MemberName-F, Step-F, StringPart-F}
use Rattle.hph_ast.specs.Layers.{ExprLayer, ItemLayer, MemberLayer, StepLayer, PartLayer}
use Rattle.hph_php.specs.State.{Name}
use Rattle.hph_php.specs.Cost.{class_nodes_by, nodes_by, item_nodes_by, member_nodes_by, step_nodes_by, part_nodes_by, nodes, item_nodes}
use Rattle.hph_plan.specs.Plan.{Plan}
use Rattle.hph_lowering.specs.Code.{Scope}
use Rattle.hph_lowering.specs.Expressions.{ClassCode, Lowered, Piece, lowered}
use Rattle.hph_lowering.specs.Expressions as l
use Rattle.hph_runx.specs.Covers.{Cover, covers, covers_by}
use Rattle.hph_runx.specs.Covers as c

unfoldable pub class_count : ClassReference → ℕ
class_count = fold-ClassReference ℕ ℕ ℕ ℕ ℕ ℕ class_nodes_by nodes_by item_nodes_by member_nodes_by step_nodes_by part_nodes_by

unfoldable pub member_count : MemberName → ℕ
member_count = fold-MemberName ℕ ℕ ℕ ℕ ℕ ℕ class_nodes_by nodes_by item_nodes_by member_nodes_by step_nodes_by part_nodes_by

unfoldable pub step_count : Step → ℕ
step_count = fold-Step ℕ ℕ ℕ ℕ ℕ ℕ class_nodes_by nodes_by item_nodes_by member_nodes_by step_nodes_by part_nodes_by

unfoldable pub part_count : StringPart → ℕ
part_count = fold-StringPart ℕ ℕ ℕ ℕ ℕ ℕ class_nodes_by nodes_by item_nodes_by member_nodes_by step_nodes_by part_nodes_by

abbrev pub expr_count_parts : ExprLayer → Expr-F ℕ ℕ ℕ ℕ ℕ ℕ
expr_count_parts d = map-Expr ClassReference Expr Item MemberName Step StringPart ℕ ℕ ℕ ℕ ℕ ℕ class_count nodes item_nodes member_count step_count part_count d

pub expr_count_rolled : (d : ExprLayer) → nodes (roll-Expr d) ≡ nodes_by (expr_count_parts d)
unfolding class_count nodes item_nodes member_count step_count part_count
expr_count_rolled d = fold-roll-Expr ℕ ℕ ℕ ℕ ℕ ℕ class_nodes_by nodes_by item_nodes_by member_nodes_by step_nodes_by part_nodes_by d

abbrev pub item_count_parts : ItemLayer → Item-F ℕ ℕ ℕ ℕ ℕ ℕ
item_count_parts d = map-Item ClassReference Expr Item MemberName Step StringPart ℕ ℕ ℕ ℕ ℕ ℕ class_count nodes item_nodes member_count step_count part_count d

pub item_count_rolled : (d : ItemLayer) → item_nodes (roll-Item d) ≡ item_nodes_by (item_count_parts d)
unfolding class_count nodes item_nodes member_count step_count part_count
item_count_rolled d = fold-roll-Item ℕ ℕ ℕ ℕ ℕ ℕ class_nodes_by nodes_by item_nodes_by member_nodes_by step_nodes_by part_nodes_by d

abbrev pub member_count_parts : MemberLayer → MemberName-F ℕ ℕ ℕ ℕ ℕ ℕ
member_count_parts d = map-MemberName ClassReference Expr Item MemberName Step StringPart ℕ ℕ ℕ ℕ ℕ ℕ class_count nodes item_nodes member_count step_count part_count d

pub member_count_rolled : (d : MemberLayer) → member_count (roll-MemberName d) ≡ member_nodes_by (member_count_parts d)
unfolding class_count nodes item_nodes member_count step_count part_count
member_count_rolled d = fold-roll-MemberName ℕ ℕ ℕ ℕ ℕ ℕ class_nodes_by nodes_by item_nodes_by member_nodes_by step_nodes_by part_nodes_by d

abbrev pub step_count_parts : StepLayer → Step-F ℕ ℕ ℕ ℕ ℕ ℕ
step_count_parts d = map-Step ClassReference Expr Item MemberName Step StringPart ℕ ℕ ℕ ℕ ℕ ℕ class_count nodes item_nodes member_count step_count part_count d

pub step_count_rolled : (d : StepLayer) → step_count (roll-Step d) ≡ step_nodes_by (step_count_parts d)
unfolding class_count nodes item_nodes member_count step_count part_count
step_count_rolled d = fold-roll-Step ℕ ℕ ℕ ℕ ℕ ℕ class_nodes_by nodes_by item_nodes_by member_nodes_by step_nodes_by part_nodes_by d

abbrev pub part_count_parts : PartLayer → StringPart-F ℕ ℕ ℕ ℕ ℕ ℕ
part_count_parts d = map-StringPart ClassReference Expr Item MemberName Step StringPart ℕ ℕ ℕ ℕ ℕ ℕ class_count nodes item_nodes member_count step_count part_count d

pub part_count_rolled : (d : PartLayer) → part_count (roll-StringPart d) ≡ part_nodes_by (part_count_parts d)
unfolding class_count nodes item_nodes member_count step_count part_count
part_count_rolled d = fold-roll-StringPart ℕ ℕ ℕ ℕ ℕ ℕ class_nodes_by nodes_by item_nodes_by member_nodes_by step_nodes_by part_nodes_by d

unfoldable pub class_cover : ClassReference → Bool
class_cover = fold-ClassReference Bool Cover Bool (Unit {0}) Bool Bool c.class_by covers_by c.item_by c.member_by c.step_by c.part_by

unfoldable pub item_cover : Item → Bool
item_cover = fold-Item Bool Cover Bool (Unit {0}) Bool Bool c.class_by covers_by c.item_by c.member_by c.step_by c.part_by

unfoldable pub member_cover : MemberName → (Unit {0})
member_cover = fold-MemberName Bool Cover Bool (Unit {0}) Bool Bool c.class_by covers_by c.item_by c.member_by c.step_by c.part_by

unfoldable pub step_cover : Step → Bool
step_cover = fold-Step Bool Cover Bool (Unit {0}) Bool Bool c.class_by covers_by c.item_by c.member_by c.step_by c.part_by

unfoldable pub part_cover : StringPart → Bool
part_cover = fold-StringPart Bool Cover Bool (Unit {0}) Bool Bool c.class_by covers_by c.item_by c.member_by c.step_by c.part_by

abbrev pub expr_cover_parts : ExprLayer → Expr-F Bool Cover Bool (Unit {0}) Bool Bool
expr_cover_parts d = map-Expr ClassReference Expr Item MemberName Step StringPart Bool Cover Bool (Unit {0}) Bool Bool class_cover covers item_cover member_cover step_cover part_cover d

pub expr_cover_rolled : (d : ExprLayer) → covers (roll-Expr d) ≡ covers_by (expr_cover_parts d)
unfolding class_cover covers item_cover member_cover step_cover part_cover
expr_cover_rolled d = fold-roll-Expr Bool Cover Bool (Unit {0}) Bool Bool c.class_by covers_by c.item_by c.member_by c.step_by c.part_by d

abbrev pub item_cover_parts : ItemLayer → Item-F Bool Cover Bool (Unit {0}) Bool Bool
item_cover_parts d = map-Item ClassReference Expr Item MemberName Step StringPart Bool Cover Bool (Unit {0}) Bool Bool class_cover covers item_cover member_cover step_cover part_cover d

pub item_cover_rolled : (d : ItemLayer) → item_cover (roll-Item d) ≡ c.item_by (item_cover_parts d)
unfolding class_cover covers item_cover member_cover step_cover part_cover
item_cover_rolled d = fold-roll-Item Bool Cover Bool (Unit {0}) Bool Bool c.class_by covers_by c.item_by c.member_by c.step_by c.part_by d

abbrev pub member_cover_parts : MemberLayer → MemberName-F Bool Cover Bool (Unit {0}) Bool Bool
member_cover_parts d = map-MemberName ClassReference Expr Item MemberName Step StringPart Bool Cover Bool (Unit {0}) Bool Bool class_cover covers item_cover member_cover step_cover part_cover d

pub member_cover_rolled : (d : MemberLayer) → member_cover (roll-MemberName d) ≡ c.member_by (member_cover_parts d)
unfolding class_cover covers item_cover member_cover step_cover part_cover
member_cover_rolled d = fold-roll-MemberName Bool Cover Bool (Unit {0}) Bool Bool c.class_by covers_by c.item_by c.member_by c.step_by c.part_by d

abbrev pub step_cover_parts : StepLayer → Step-F Bool Cover Bool (Unit {0}) Bool Bool
step_cover_parts d = map-Step ClassReference Expr Item MemberName Step StringPart Bool Cover Bool (Unit {0}) Bool Bool class_cover covers item_cover member_cover step_cover part_cover d

pub step_cover_rolled : (d : StepLayer) → step_cover (roll-Step d) ≡ c.step_by (step_cover_parts d)
unfolding class_cover covers item_cover member_cover step_cover part_cover
step_cover_rolled d = fold-roll-Step Bool Cover Bool (Unit {0}) Bool Bool c.class_by covers_by c.item_by c.member_by c.step_by c.part_by d

abbrev pub part_cover_parts : PartLayer → StringPart-F Bool Cover Bool (Unit {0}) Bool Bool
part_cover_parts d = map-StringPart ClassReference Expr Item MemberName Step StringPart Bool Cover Bool (Unit {0}) Bool Bool class_cover covers item_cover member_cover step_cover part_cover d

pub part_cover_rolled : (d : PartLayer) → part_cover (roll-StringPart d) ≡ c.part_by (part_cover_parts d)
unfolding class_cover covers item_cover member_cover step_cover part_cover
part_cover_rolled d = fold-roll-StringPart Bool Cover Bool (Unit {0}) Bool Bool c.class_by covers_by c.item_by c.member_by c.step_by c.part_by d

module _ (plan : Plan) (scope : Scope) where
  unfoldable pub class_code : ClassReference → ClassCode
  class_code = fold-ClassReference ClassCode Lowered Piece Name l.Step Piece (l.class_by plan scope) (l.lowered_by plan scope) (l.item_by plan scope) (l.member_by plan scope) (l.step_by plan scope) (l.part_by plan scope)

  unfoldable pub item_code : Item → Piece
  item_code = fold-Item ClassCode Lowered Piece Name l.Step Piece (l.class_by plan scope) (l.lowered_by plan scope) (l.item_by plan scope) (l.member_by plan scope) (l.step_by plan scope) (l.part_by plan scope)

  unfoldable pub member_code : MemberName → Name
  member_code = fold-MemberName ClassCode Lowered Piece Name l.Step Piece (l.class_by plan scope) (l.lowered_by plan scope) (l.item_by plan scope) (l.member_by plan scope) (l.step_by plan scope) (l.part_by plan scope)

  unfoldable pub step_code : Step → l.Step
  step_code = fold-Step ClassCode Lowered Piece Name l.Step Piece (l.class_by plan scope) (l.lowered_by plan scope) (l.item_by plan scope) (l.member_by plan scope) (l.step_by plan scope) (l.part_by plan scope)

  unfoldable pub part_code : StringPart → Piece
  part_code = fold-StringPart ClassCode Lowered Piece Name l.Step Piece (l.class_by plan scope) (l.lowered_by plan scope) (l.item_by plan scope) (l.member_by plan scope) (l.step_by plan scope) (l.part_by plan scope)

  abbrev pub expr_code_parts : ExprLayer → Expr-F ClassCode Lowered Piece Name l.Step Piece
  expr_code_parts d = map-Expr ClassReference Expr Item MemberName Step StringPart ClassCode Lowered Piece Name l.Step Piece class_code (lowered plan scope) item_code member_code step_code part_code d

  pub expr_code_rolled : (d : ExprLayer) → (lowered plan scope) (roll-Expr d) ≡ (l.lowered_by plan scope) (expr_code_parts d)
  unfolding class_code lowered item_code member_code step_code part_code
  expr_code_rolled d = fold-roll-Expr ClassCode Lowered Piece Name l.Step Piece (l.class_by plan scope) (l.lowered_by plan scope) (l.item_by plan scope) (l.member_by plan scope) (l.step_by plan scope) (l.part_by plan scope) d

  abbrev pub item_code_parts : ItemLayer → Item-F ClassCode Lowered Piece Name l.Step Piece
  item_code_parts d = map-Item ClassReference Expr Item MemberName Step StringPart ClassCode Lowered Piece Name l.Step Piece class_code (lowered plan scope) item_code member_code step_code part_code d

  pub item_code_rolled : (d : ItemLayer) → item_code (roll-Item d) ≡ (l.item_by plan scope) (item_code_parts d)
  unfolding class_code lowered item_code member_code step_code part_code
  item_code_rolled d = fold-roll-Item ClassCode Lowered Piece Name l.Step Piece (l.class_by plan scope) (l.lowered_by plan scope) (l.item_by plan scope) (l.member_by plan scope) (l.step_by plan scope) (l.part_by plan scope) d

  abbrev pub member_code_parts : MemberLayer → MemberName-F ClassCode Lowered Piece Name l.Step Piece
  member_code_parts d = map-MemberName ClassReference Expr Item MemberName Step StringPart ClassCode Lowered Piece Name l.Step Piece class_code (lowered plan scope) item_code member_code step_code part_code d

  pub member_code_rolled : (d : MemberLayer) → member_code (roll-MemberName d) ≡ (l.member_by plan scope) (member_code_parts d)
  unfolding class_code lowered item_code member_code step_code part_code
  member_code_rolled d = fold-roll-MemberName ClassCode Lowered Piece Name l.Step Piece (l.class_by plan scope) (l.lowered_by plan scope) (l.item_by plan scope) (l.member_by plan scope) (l.step_by plan scope) (l.part_by plan scope) d

  abbrev pub step_code_parts : StepLayer → Step-F ClassCode Lowered Piece Name l.Step Piece
  step_code_parts d = map-Step ClassReference Expr Item MemberName Step StringPart ClassCode Lowered Piece Name l.Step Piece class_code (lowered plan scope) item_code member_code step_code part_code d

  pub step_code_rolled : (d : StepLayer) → step_code (roll-Step d) ≡ (l.step_by plan scope) (step_code_parts d)
  unfolding class_code lowered item_code member_code step_code part_code
  step_code_rolled d = fold-roll-Step ClassCode Lowered Piece Name l.Step Piece (l.class_by plan scope) (l.lowered_by plan scope) (l.item_by plan scope) (l.member_by plan scope) (l.step_by plan scope) (l.part_by plan scope) d

  abbrev pub part_code_parts : PartLayer → StringPart-F ClassCode Lowered Piece Name l.Step Piece
  part_code_parts d = map-StringPart ClassReference Expr Item MemberName Step StringPart ClassCode Lowered Piece Name l.Step Piece class_code (lowered plan scope) item_code member_code step_code part_code d

  pub part_code_rolled : (d : PartLayer) → part_code (roll-StringPart d) ≡ (l.part_by plan scope) (part_code_parts d)
  unfolding class_code lowered item_code member_code step_code part_code
  part_code_rolled d = fold-roll-StringPart ClassCode Lowered Piece Name l.Step Piece (l.class_by plan scope) (l.lowered_by plan scope) (l.item_by plan scope) (l.member_by plan scope) (l.step_by plan scope) (l.part_by plan scope) d
