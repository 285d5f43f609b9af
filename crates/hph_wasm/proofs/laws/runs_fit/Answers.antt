use Rattle.hph_wasm.proofs.Safety.{runs_fit}
use Rattle.hph_wasm.proofs.laws.runs_fit.Goals as goal

pub returns : goal.returns
returns g c host state m valid linked by_type = runs_fit m host valid linked by_type state
