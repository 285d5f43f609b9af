-- The items that are left decide.
use Rattle.std.proofs.Common.{◌≡◌, drop}
use Rattle.std.specs.Prelude.{nat_le}
use Rattle.hph_ast.specs.Nesting.{nesting, class_nesting, item_nesting, step_nesting, part_nesting, greatest}
use Rattle.hph_ast.specs.declared.operator.Binary.{Binary}
use Rattle.hph_ast.specs.declared.expr.Expr.{Expr}
use Rattle.hph_nest.proofs.nesting.+expr_fits.Given as goal

abbrev pub invariant-exprs_fit-loop-expr : goal.invariant-exprs_fit-loop-expr
invariant-exprs_fit-loop-expr l = nat_le (greatest nesting l.exprs) l.limit ≡ nat_le (greatest nesting (drop l.expr-index l.exprs)) l.limit

abbrev pub invariant-items_fit-loop-item : goal.invariant-items_fit-loop-item
invariant-items_fit-loop-item l = nat_le (greatest item_nesting l.items) l.limit ≡ nat_le (greatest item_nesting (drop l.item-index l.items)) l.limit

abbrev pub invariant-steps_fit-loop-step : goal.invariant-steps_fit-loop-step
invariant-steps_fit-loop-step l = nat_le (greatest step_nesting l.steps) l.limit ≡ nat_le (greatest step_nesting (drop l.step-index l.steps)) l.limit

abbrev pub invariant-parts_fit-loop-part : goal.invariant-parts_fit-loop-part
invariant-parts_fit-loop-part l = nat_le (greatest part_nesting l.parts) l.limit ≡ nat_le (greatest part_nesting (drop l.part-index l.parts)) l.limit

abbrev pub invariant-classes_fit-loop-class : goal.invariant-classes_fit-loop-class
invariant-classes_fit-loop-class l = nat_le (greatest class_nesting l.classes) l.limit ≡ nat_le (greatest class_nesting (drop l.class-index l.classes)) l.limit

abbrev pub invariant-operands_fit-loop-operand : goal.invariant-operands_fit-loop-operand
invariant-operands_fit-loop-operand l = nat_le (greatest (λ (o : Binary × Expr). nesting o.1) l.operands) l.limit ≡ nat_le (greatest (λ (o : Binary × Expr). nesting o.1) (drop l.operand-index l.operands)) l.limit
