-- An event that was taken, and one that wasn't. Source: this project's own.
use Rattle.std.specs.Prelude.{◌≡◌}
use Rattle.hph_sys.specs.Shape.{Shape}
use Rattle.hph_core.specs.declared.event.Event.{Event}
use Rattle.hph_core.specs.declared.event.Answer.{Answer}
use Rattle.hph_core.specs.State.{WorkerState}
use Rattle.hph_core.specs.Events.{Enabled, happens, answers}
use Rattle.hph_machine.specs.declared.machine.StepFault.{StepFault}
use Rattle.hph_machine.specs.declared.machine.StepFault.TheVariants.{NotEnabled, NoMemory}

-- An enabled event was taken: its answer, and the state that it leaves.
pub record Takes (sys : Shape) (before : WorkerState) (e : Event) (answer : Answer) (after : WorkerState) : Type 0 where
  pub enabled : Enabled sys before e
  pub answer_is : answer ≡ answers before e
  pub state_is : after ≡ happens sys before e

-- An event that isn't enabled is refused as such; of want of memory nothing is said.
abbrev pub Refuses : Shape → WorkerState → Event → StepFault → Type 0
Refuses sys before e NotEnabled = ¬ Enabled sys before e
Refuses sys before e NoMemory = Unit {0}
