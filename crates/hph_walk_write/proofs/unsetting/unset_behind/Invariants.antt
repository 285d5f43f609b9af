use Rattle.std.proofs.Common.{ℕ, drop, Option}
use Rattle.hph_php.specs.State.{Heap}
use Rattle.hph_value.specs.Shown.{value_of}
use Rattle.hph_walk.specs.Steps.{step_of, steps_of}
use Rattle.hph_walk_write.specs.Unsets.{IsUnsetting}
use Rattle.hph_walk_write.proofs.unsetting.unset_behind.Given as goal

abbrev pub invariant-steps : goal.invariant-steps
invariant-steps l = (heap : Heap) (within : Option ℕ)
    → IsUnsetting heap within (value_of l.fn.value) (steps_of l.front) (step_of l.last) l.levels.items (value_of l.inner) (steps_of (drop l.step-index l.front))
