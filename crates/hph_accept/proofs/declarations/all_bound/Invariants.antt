use Rattle.std.proofs.Common.{◌≡◌, drop}
use Rattle.std.specs.Prelude.{flat_map}
use Rattle.hph_ast.specs.RefusedStatements as refused
use Rattle.hph_accept.specs.Order.{earliest}
use Rattle.hph_accept.specs.Enclosed.{seen}
use Rattle.hph_accept.proofs.declarations.all_bound.Given as goal

abbrev pub invariant-loop-name : goal.invariant-loop-name
invariant-loop-name l = earliest l.fn.met (flat_map (λ x. refused.bound x (seen l.context)) l.names) ≡ earliest l.met (flat_map (λ x. refused.bound x (seen l.context)) (drop l.name-index l.names))
