use Rattle.hph_wasm.proofs.Runs.{reduce-add}
use Rattle.hph_wasm.proofs.laws.reductions_in_turn.Goals as goal

pub returns : goal.returns
returns g c = reduce-add
