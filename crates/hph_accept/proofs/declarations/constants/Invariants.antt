use Rattle.std.proofs.Common.{◌≡◌, drop}
use Rattle.std.specs.Prelude.{flat_map}
use Rattle.hph_ast.specs.declared.class.ConstantItem.{ConstantItem}
use Rattle.hph_ast.specs.RefusedExpressions.{refused_in}
use Rattle.hph_accept.specs.Order.{earliest}
use Rattle.hph_accept.specs.Enclosed.{seen}
use Rattle.hph_accept.proofs.declarations.constants.Given as goal

abbrev pub invariant-loop-constant : goal.invariant-loop-constant
invariant-loop-constant l = earliest l.fn.met (flat_map (λ (i : ConstantItem). refused_in i.value (seen l.context)) l.constants) ≡ earliest l.met (flat_map (λ (i : ConstantItem). refused_in i.value (seen l.context)) (drop l.constant-index l.constants))
