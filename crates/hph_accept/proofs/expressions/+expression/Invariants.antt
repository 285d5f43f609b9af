-- What is found in the items that are left is all that is missing.
use Rattle.std.proofs.Common.{◌≡◌, drop}
use Rattle.std.specs.Prelude.{flat_map}
use Rattle.hph_ast.specs.declared.operator.Binary.{Binary}
use Rattle.hph_ast.specs.declared.expr.Expr.{Expr}
use Rattle.hph_ast.specs.RefusedExpressions.{refused_in, item_found}
use Rattle.hph_accept.specs.Order.{earliest}
use Rattle.hph_accept.specs.Enclosed.{seen}
use Rattle.hph_accept.specs.Parts.{class_found, step_found, piece_found}
use Rattle.hph_accept.proofs.expressions.+expression.Given as goal

abbrev pub invariant-expressions-loop-expr : goal.invariant-expressions-loop-expr
invariant-expressions-loop-expr l = earliest l.fn.met (flat_map (λ x. refused_in x (seen l.context)) l.exprs) ≡ earliest l.met (flat_map (λ x. refused_in x (seen l.context)) (drop l.expr-index l.exprs))

abbrev pub invariant-items-loop-element : goal.invariant-items-loop-element
invariant-items-loop-element l = earliest l.fn.met (flat_map (λ x. item_found x (seen l.context)) l.elements) ≡ earliest l.met (flat_map (λ x. item_found x (seen l.context)) (drop l.element-index l.elements))

abbrev pub invariant-steps-loop-one : goal.invariant-steps-loop-one
invariant-steps-loop-one l = earliest l.fn.met (flat_map (λ x. step_found x (seen l.context)) l.steps) ≡ earliest l.met (flat_map (λ x. step_found x (seen l.context)) (drop l.one-index l.steps))

abbrev pub invariant-pieces-loop-one : goal.invariant-pieces-loop-one
invariant-pieces-loop-one l = earliest l.fn.met (flat_map (λ x. piece_found x (seen l.context)) l.pieces) ≡ earliest l.met (flat_map (λ x. piece_found x (seen l.context)) (drop l.one-index l.pieces))

abbrev pub invariant-classes-loop-one : goal.invariant-classes-loop-one
invariant-classes-loop-one l = earliest l.fn.met (flat_map (λ x. class_found x (seen l.context)) l.classes) ≡ earliest l.met (flat_map (λ x. class_found x (seen l.context)) (drop l.one-index l.classes))

abbrev pub invariant-operands-loop-operand : goal.invariant-operands-loop-operand
invariant-operands-loop-operand l = earliest l.fn.met (flat_map (λ (o : Binary × Expr). refused_in o.1 (seen l.context)) l.operands) ≡ earliest l.met (flat_map (λ (o : Binary × Expr). refused_in o.1 (seen l.context)) (drop l.operand-index l.operands))
