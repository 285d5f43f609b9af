use Rattle.std.proofs.Common.{ℕ, drop, Option}
use Rattle.hph_php.specs.State.{Heap}
use Rattle.hph_walk.specs.Steps.{steps_of}
use Rattle.hph_walk_write.specs.Writes.{place_of, IsOpening}
use Rattle.hph_walk_write.proofs.opening.open.Given as goal

abbrev pub invariant-steps : goal.invariant-steps
invariant-steps l = (heap : Heap) (within : Option ℕ)
    → IsOpening heap within (place_of l.fn.place) (steps_of l.steps) l.levels.items (place_of l.inner) (steps_of (drop l.step-index l.steps))
