use Rattle.std.proofs.Common.{◌≡◌, map}
use Rattle.hph_core.specs.State.{others}
use Rattle.hph_machine.proofs.lists.others.Given as goal

-- what was kept of those seen so far
abbrev pub invariant-loop-k : goal.invariant-loop-k
invariant-loop-k l = l.kept ≡ others l.cell (map (λ k. k.now) l.yielded)
