use Rattle.std.proofs.Common.{◌≡◌, ◌<◌, ◌+◌, length}
use Rattle.hph_type.specs.Classes.{nearest}
use Rattle.hph_type.proofs.tree.ClassTree.nearest.Given as goal

abbrev pub invariant-loop-left : goal.invariant-loop-left
invariant-loop-left l =
    (l.left < length l.self) × (l.right < length l.self) × (nearest l.self l.a l.b ≡ nearest l.self l.left l.right)

abbrev pub decreases-loop-left : goal.decreases-loop-left
decreases-loop-left l = l.left + l.right
