use Rattle.hph_wasm.proofs.Agreement.{agreement}
use Rattle.hph_wasm.proofs.laws.both_directions.Goals as goal

pub returns : goal.returns
returns g c = agreement
