use Rattle.std.proofs.Common.{◌≡◌, map}
use Rattle.hph_core.specs.State.{elsewhere}
use Rattle.hph_machine.proofs.lists.elsewhere.Given as goal

-- what was kept of those seen so far
abbrev pub invariant-loop-k : goal.invariant-loop-k
invariant-loop-k l = l.kept ≡ elsewhere l.owner (map (λ k. k.now) l.yielded)
