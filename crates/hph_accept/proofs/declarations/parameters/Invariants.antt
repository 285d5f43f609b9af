use Rattle.std.proofs.Common.{◌≡◌, drop}
use Rattle.std.specs.Prelude.{flat_map}
use Rattle.hph_ast.specs.RefusedStatements as refused
use Rattle.hph_accept.specs.Order.{earliest}
use Rattle.hph_accept.specs.Enclosed.{seen}
use Rattle.hph_accept.proofs.declarations.parameters.Given as goal

abbrev pub invariant-loop-param : goal.invariant-loop-param
invariant-loop-param l = earliest l.fn.met (flat_map (λ x. refused.param_refused x (seen l.context)) l.params) ≡ earliest l.met (flat_map (λ x. refused.param_refused x (seen l.context)) (drop l.param-index l.params))
