use Rattle.std.proofs.Common.{◌≡◌, drop}
use Rattle.std.specs.Prelude.{flat_map}
use Rattle.hph_ast.specs.RefusedStatements as refused
use Rattle.hph_accept.specs.Order.{earliest}
use Rattle.hph_accept.specs.Enclosed.{seen}
use Rattle.hph_accept.proofs.declarations.unset_paths.Given as goal

abbrev pub invariant-loop-path : goal.invariant-loop-path
invariant-loop-path l = earliest l.fn.met (flat_map (λ x. refused.unset_refused x (seen l.context)) l.paths) ≡ earliest l.met (flat_map (λ x. refused.unset_refused x (seen l.context)) (drop l.path-index l.paths))
