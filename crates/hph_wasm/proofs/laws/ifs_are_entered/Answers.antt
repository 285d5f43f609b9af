use Rattle.hph_wasm.proofs.Rows.{step-if}
use Rattle.hph_wasm.proofs.laws.ifs_are_entered.Goals as goal

pub returns : goal.returns
returns g c = step-if
