use Rattle.std.proofs.Common.{◌≡◌, ◌+◌}
use Rattle.hph_php.specs.Comparison.{and_also}
use Rattle.hph_equal.specs.Frames.{left, after, size, work}
use Rattle.hph_equal.proofs.equal.arrays_equal.Given as goal

abbrev pub invariant-pairs : goal.invariant-pairs
invariant-pairs l = and_also (left l.equality l.top) (after l.equality l.frames.items) ≡ left l.equality l.initial.top

abbrev pub decreases-pairs : goal.decreases-pairs
decreases-pairs l = size l.top + work l.frames.items
