use Rattle.std.proofs.Common.{◌≡◌, ◌<◌, length}
use Rattle.hph_type.specs.Classes.{is_within}
use Rattle.hph_type.proofs.tree.ClassTree.is_within.Given as goal

abbrev pub invariant-loop-at : goal.invariant-loop-at
invariant-loop-at l =
    (l.at < length l.self) × (is_within l.self l.class l.ancestor ≡ is_within l.self l.at l.ancestor)

abbrev pub decreases-loop-at : goal.decreases-loop-at
decreases-loop-at l = l.at
