-- The parts of expressions that may stand in the value of a constant: the same fold as that of expressions.
use Rattle.std.specs.Prelude.{Bool}
use Rattle.hph_ast.specs.declared.expr.ClassReference.{ClassReference}
use Rattle.hph_ast.specs.declared.expr.Item.{Item}
use Rattle.hph_ast.specs.declared.expr.MemberName.{MemberName}
use Rattle.hph_ast.specs.declared.expr.Step.{Step}
use Rattle.hph_ast.specs.declared.expr.StringPart.{StringPart}
use Rattle.hph_ast.specs.declared.expr.ClassReference.TheFolds.{fold-ClassReference, fold-Item, fold-MemberName, fold-Step, fold-StringPart}
use Rattle.hph_ast.specs.ConstantExpressions.{class_is_constant, expr_is_constant, item_is_constant, member_is_constant, step_is_constant, part_is_constant}

unfoldable pub constant_class : ClassReference → Bool
constant_class = fold-ClassReference Bool Bool Bool Bool Bool Bool class_is_constant expr_is_constant item_is_constant member_is_constant step_is_constant part_is_constant

unfoldable pub constant_item : Item → Bool
constant_item = fold-Item Bool Bool Bool Bool Bool Bool class_is_constant expr_is_constant item_is_constant member_is_constant step_is_constant part_is_constant

unfoldable pub constant_member : MemberName → Bool
constant_member = fold-MemberName Bool Bool Bool Bool Bool Bool class_is_constant expr_is_constant item_is_constant member_is_constant step_is_constant part_is_constant

unfoldable pub constant_step : Step → Bool
constant_step = fold-Step Bool Bool Bool Bool Bool Bool class_is_constant expr_is_constant item_is_constant member_is_constant step_is_constant part_is_constant

unfoldable pub constant_part : StringPart → Bool
constant_part = fold-StringPart Bool Bool Bool Bool Bool Bool class_is_constant expr_is_constant item_is_constant member_is_constant step_is_constant part_is_constant
