-- One level of what is told of trees, as examples compute it: what is refused in a context, and whether nodes are as they should be.
use Rattle.std.specs.Prelude.{◌≡◌}
use Rattle.hph_ast.specs.declared.expr.Expr.{Expr, roll-Expr}
use Rattle.hph_ast.specs.declared.expr.ClassReference.{ClassReference}
use Rattle.hph_ast.specs.declared.expr.Item.{Item}
use Rattle.hph_ast.specs.declared.expr.MemberName.{MemberName}
use Rattle.hph_ast.specs.declared.expr.Step.{Step}
use Rattle.hph_ast.specs.declared.expr.StringPart.{StringPart}
use Rattle.hph_ast.specs.declared.expr.ClassReference.TheFolds.{fold-ClassReference, fold-MemberName, fold-Step, fold-StringPart, fold-roll-Expr, map-Expr}
use Rattle.hph_ast.specs.declared.function.Function.{Function, roll-Function}
use Rattle.hph_ast.specs.declared.class.Class.{Class}
use Rattle.hph_ast.specs.declared.class.Member.{Member}
use Rattle.hph_ast.specs.declared.class.Member.TheOpen.{Statement-F, Function-F}
use Rattle.hph_ast.specs.declared.class.Member.TheFolds.{fold-Member, fold-Class, fold-Function, fold-Case, fold-ElseIf, fold-roll-Statement, fold-roll-Function, map-Statement, map-Function}
use Rattle.hph_ast.specs.declared.stmt.Statement.{Statement, roll-Statement}
use Rattle.hph_ast.specs.declared.stmt.Case.{Case}
use Rattle.hph_ast.specs.declared.stmt.ElseIf.{ElseIf}
use Rattle.hph_ast.specs.Layers.{ExprLayer}
use Rattle.hph_ast.specs.RefusedExpressions.{Context, Part, Refused, part, part_of, class_refused, item_refused, member_refused, step_refused, piece_refused, item_found}
use Rattle.hph_ast.specs.RefusedStatements.{statement_refused, statement_part, member_part, class_part, function_part, case_part, else_if_part, FunctionPart, MemberPart}
use Rattle.hph_lowerable.specs.Facts.{facts}
use Rattle.hph_lowerable.proofs.ExpressionLevels.{facts_at, facts_rolled}

pub fits_rolled : (d : ExprLayer) → (facts (roll-Expr d)).fits ≡ (facts_at d).fits
fits_rolled d = λ i. (facts_rolled d i).fits

unfoldable pub class_told : ClassReference → Refused
class_told = fold-ClassReference Refused Part Refused Refused Refused Refused class_refused part_of item_refused member_refused step_refused piece_refused

unfoldable pub name_told : MemberName → Refused
name_told = fold-MemberName Refused Part Refused Refused Refused Refused class_refused part_of item_refused member_refused step_refused piece_refused

unfoldable pub step_told : Step → Refused
step_told = fold-Step Refused Part Refused Refused Refused Refused class_refused part_of item_refused member_refused step_refused piece_refused

unfoldable pub piece_told : StringPart → Refused
piece_told = fold-StringPart Refused Part Refused Refused Refused Refused class_refused part_of item_refused member_refused step_refused piece_refused

pub part_rolled : (d : ExprLayer) (ctx : Context) → (part (roll-Expr d)).refused ctx ≡ (part_of (map-Expr ClassReference Expr Item MemberName Step StringPart
    Refused Part Refused Refused Refused Refused class_told part item_found name_told step_told piece_told d)).refused ctx
unfolding part item_found class_told name_told step_told piece_told
part_rolled d ctx = λ i. (fold-roll-Expr Refused Part Refused Refused Refused Refused class_refused part_of item_refused member_refused step_refused piece_refused d i).refused ctx

unfoldable pub member_told : Member → MemberPart
member_told = fold-Member MemberPart Refused Refused FunctionPart Refused Refused member_part statement_part class_part function_part case_part else_if_part

unfoldable pub class_declaration_told : Class → Refused
class_declaration_told = fold-Class MemberPart Refused Refused FunctionPart Refused Refused member_part statement_part class_part function_part case_part else_if_part

unfoldable pub function_told : Function → FunctionPart
function_told = fold-Function MemberPart Refused Refused FunctionPart Refused Refused member_part statement_part class_part function_part case_part else_if_part

unfoldable pub case_told : Case → Refused
case_told = fold-Case MemberPart Refused Refused FunctionPart Refused Refused member_part statement_part class_part function_part case_part else_if_part

unfoldable pub branch_told : ElseIf → Refused
branch_told = fold-ElseIf MemberPart Refused Refused FunctionPart Refused Refused member_part statement_part class_part function_part case_part else_if_part

pub statement_rolled : (d : Statement-F Member Statement Class Function Case ElseIf) (ctx : Context) → statement_refused (roll-Statement d) ctx ≡ statement_part (map-Statement Member Statement Class Function Case ElseIf
    MemberPart Refused Refused FunctionPart Refused Refused member_told statement_refused class_declaration_told function_told case_told branch_told d) ctx
unfolding statement_refused member_told class_declaration_told function_told case_told branch_told
statement_rolled d ctx = λ i. fold-roll-Statement MemberPart Refused Refused FunctionPart Refused Refused member_part statement_part class_part function_part case_part else_if_part d i ctx

pub function_rolled : (d : Function-F Member Statement Class Function Case ElseIf) (ctx : Context) → (function_told (roll-Function d)).refused ctx ≡ (function_part (map-Function Member Statement Class Function Case ElseIf
    MemberPart Refused Refused FunctionPart Refused Refused member_told statement_refused class_declaration_told function_told case_told branch_told d)).refused ctx
unfolding statement_refused member_told class_declaration_told function_told case_told branch_told
function_rolled d ctx = λ i. (fold-roll-Function MemberPart Refused Refused FunctionPart Refused Refused member_part statement_part class_part function_part case_part else_if_part d i).refused ctx
