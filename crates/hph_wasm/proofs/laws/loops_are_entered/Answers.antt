use Rattle.hph_wasm.proofs.Rows.{step-loop}
use Rattle.hph_wasm.proofs.laws.loops_are_entered.Goals as goal

pub returns : goal.returns
returns g c = step-loop
