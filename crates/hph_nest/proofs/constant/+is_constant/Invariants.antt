-- The ones that are left decide.
use Rattle.std.proofs.Common.{◌≡◌, drop}
use Rattle.std.specs.List.{list_all}
use Rattle.hph_ast.specs.declared.operator.Binary.{Binary}
use Rattle.hph_ast.specs.declared.expr.Expr.{Expr}
use Rattle.hph_ast.specs.ConstantExpressions.{is_constant}
use Rattle.hph_nest.specs.ConstantParts.{constant_class, constant_item, constant_part, constant_step}
use Rattle.hph_nest.proofs.constant.+is_constant.Given as goal

abbrev pub invariant-exprs_are_constant-loop-expr : goal.invariant-exprs_are_constant-loop-expr
invariant-exprs_are_constant-loop-expr l = list_all is_constant l.exprs ≡ list_all is_constant (drop l.expr-index l.exprs)

abbrev pub invariant-items_are_constant-loop-item : goal.invariant-items_are_constant-loop-item
invariant-items_are_constant-loop-item l = list_all constant_item l.items ≡ list_all constant_item (drop l.item-index l.items)

abbrev pub invariant-steps_are_constant-loop-step : goal.invariant-steps_are_constant-loop-step
invariant-steps_are_constant-loop-step l = list_all constant_step l.steps ≡ list_all constant_step (drop l.step-index l.steps)

abbrev pub invariant-parts_are_constant-loop-part : goal.invariant-parts_are_constant-loop-part
invariant-parts_are_constant-loop-part l = list_all constant_part l.parts ≡ list_all constant_part (drop l.part-index l.parts)

abbrev pub invariant-classes_are_constant-loop-class : goal.invariant-classes_are_constant-loop-class
invariant-classes_are_constant-loop-class l = list_all constant_class l.classes ≡ list_all constant_class (drop l.class-index l.classes)

abbrev pub invariant-operands_are_constant-loop-operand : goal.invariant-operands_are_constant-loop-operand
invariant-operands_are_constant-loop-operand l = list_all (λ (o : Binary × Expr). is_constant o.1) l.operands ≡ list_all (λ (o : Binary × Expr). is_constant o.1) (drop l.operand-index l.operands)
