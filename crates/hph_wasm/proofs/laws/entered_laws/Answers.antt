use Rattle.hph_wasm.proofs.Runs.{invoked_is_entering}
use Rattle.hph_wasm.proofs.laws.entered_laws.Goals as goal

pub returns : goal.returns
returns g c host state m = invoked_is_entering host m state
