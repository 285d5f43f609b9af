use Rattle.hph_wasm.proofs.Rows.{size-block, valid-block}
use Rattle.hph_wasm.proofs.laws.blocks_are_sequences.Goals as goal

pub returns : goal.returns
returns c = record { size = size-block; valid = valid-block }
