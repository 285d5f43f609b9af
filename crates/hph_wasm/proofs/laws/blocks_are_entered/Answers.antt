use Rattle.hph_wasm.proofs.Rows.{step-block}
use Rattle.hph_wasm.proofs.laws.blocks_are_entered.Goals as goal

pub returns : goal.returns
returns g c = step-block
