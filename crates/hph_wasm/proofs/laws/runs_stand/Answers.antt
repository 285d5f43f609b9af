use Rattle.hph_wasm.proofs.PlacedSteps.{runs_stand}
use Rattle.hph_wasm.proofs.laws.runs_stand.Goals as goal

pub returns : goal.returns
returns g c host m = runs_stand m host
