use Rattle.std.proofs.Common.{◌≡◌, ◌+◌, length}
use Rattle.hph_wasm.specs.Rows.{list_size}
use Rattle.hph_wrun.specs.Counting.{left_of}
use Rattle.hph_wrun.proofs.counting.opcode_count.Given as goal

abbrev pub invariant-loop-list : goal.invariant-loop-list
invariant-loop-list l = l.count + left_of l.waiting ≡ list_size l.code

abbrev pub decreases-loop-list : goal.decreases-loop-list
decreases-loop-list l = left_of l.waiting + length l.waiting
