use Rattle.hph_wasm.proofs.Runs.{wasm_is_run}
use Rattle.hph_wasm.proofs.laws.run_laws.Goals as goal

pub returns : goal.returns
returns g c host state m keeps = wasm_is_run host m keeps state
