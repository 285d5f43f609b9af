use Rattle.hph_wasm.proofs.Rows.{size-loop, valid-loop}
use Rattle.hph_wasm.proofs.laws.loops_are_sequences.Goals as goal

pub returns : goal.returns
returns c = record { size = size-loop; valid = valid-loop }
