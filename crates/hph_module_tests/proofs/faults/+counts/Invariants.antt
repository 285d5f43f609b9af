use Rattle.std.proofs.Common.{◌+◌, ◌*◌}
use Rattle.hph_wasm.specs.Rows.{size, list_size}
use Rattle.hph_module_tests.proofs.faults.+counts.Given as goal

abbrev pub decreases-opcodes : goal.decreases-opcodes
decreases-opcodes l = 2 * size l.instr.now

abbrev pub decreases-opcodes_of : goal.decreases-opcodes_of
decreases-opcodes_of l = 2 * list_size l.list.now + 1
