use Rattle.std.proofs.Common.{◌≡◌, ◌+◌, ◌≤◌, length}
use Rattle.hph_wasm.specs.Rows.{list_size}
use Rattle.hph_wrun.specs.Counting.{left_of}
use Rattle.hph_wrun.proofs.counting.count_list.Given as goal

abbrev pub invariant-loop-left : goal.invariant-loop-left
invariant-loop-left l = (l.count + (left_of l.waiting + list_size l.left) ≡ list_size l.list + left_of l.initial.waiting) ×
    (length l.waiting ≤ length l.initial.waiting + l.count)

abbrev pub decreases-loop-left : goal.decreases-loop-left
decreases-loop-left l = length l.left
