use Rattle.std.proofs.Common.{◌≡◌, map}
use Rattle.hph_core.specs.State.{without}
use Rattle.hph_machine.proofs.lists.without.Given as goal

-- what was kept of those seen so far
abbrev pub invariant-loop-y : goal.invariant-loop-y
invariant-loop-y l = l.kept ≡ without l.x (map (λ y. y.now) l.yielded)
