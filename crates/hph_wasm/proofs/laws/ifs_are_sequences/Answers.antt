use Rattle.hph_wasm.proofs.Rows.{size-if, valid-if}
use Rattle.hph_wasm.proofs.laws.ifs_are_sequences.Goals as goal

pub returns : goal.returns
returns c = record { size = size-if; valid = valid-if }
