use Rattle.std.proofs.Common.{◌≡◌, ℕ, drop, Option}
use Rattle.hph_php.specs.State.{Heap}
use Rattle.hph_php.specs.Paths.{read_path}
use Rattle.hph_value.specs.Shown.{value_of}
use Rattle.hph_walk.specs.Seen.{seen_value}
use Rattle.hph_walk.specs.Steps.{steps_of}
use Rattle.hph_walk.proofs.reading.read.Given as goal

abbrev pub invariant-steps : goal.invariant-steps
invariant-steps l = (heap : Heap) (within : Option ℕ)
    → read_path heap within (value_of l.value) (steps_of l.steps) ≡ read_path heap within (seen_value l.seen) (steps_of (drop l.step-index l.steps))
