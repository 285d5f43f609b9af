-- The rows are those of the table, as both compute.
use Rattle.std.proofs.Common.{refl}
use Rattle.hph_case.specs.Opcodes.{opcodes}
use Rattle.hph_case.proofs.opcode_table.opcodes.Goals as goal

pub returns : goal.returns
unfolding opcodes
returns c = refl
