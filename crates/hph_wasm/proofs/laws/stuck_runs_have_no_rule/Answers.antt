use Rattle.hph_wasm.proofs.NoRule.{stuck_is_final}
use Rattle.hph_wasm.proofs.laws.stuck_runs_have_no_rule.Goals as goal

pub returns : goal.returns
returns g c = stuck_is_final
