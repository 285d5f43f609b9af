-- The rule holds in the first state, and after each step.
use Rattle.std.proofs.Common.{◌≡◌, ℕ, ◌≤◌, IfOk, OnErr, Result, Ok, Err, sym, subst}
use Rattle.hph_sys.specs.Shape.{Shape}
use Rattle.hph_sys.specs.Lawful.{Lawful}
use Rattle.hph_core.specs.declared.event.Event.{Event}
use Rattle.hph_core.specs.declared.event.Answer.{Answer}
use Rattle.hph_core.specs.State.{WorkerState}
use Rattle.hph_core.specs.Rule.{KeepsInvariant}
use Rattle.hph_core.proofs.Worth.{starts_well, event_keeps}
use Rattle.hph_machine.specs.declared.machine.StepFault.{StepFault}
use Rattle.hph_machine.specs.Taking.{Takes}
use Rattle.hph_machine_value.specs.Begins.{Begins}

pub begins_well : (sys : Shape) → Lawful sys → (workers : ℕ) (st : WorkerState) → workers ≤ 64 → Begins sys workers st → KeepsInvariant sys st
begins_well sys law workers st few begins =
    subst (KeepsInvariant sys) (sym begins.start_is) (starts_well sys law st.work workers begins.full few)

-- A step takes an enabled event, or leaves the state as it was.
pub step_keeps : (sys : Shape) → Lawful sys → (before after : WorkerState) (e : Event) (r : Result Answer StepFault)
    → KeepsInvariant sys before → IfOk r (λ answer. Takes sys before e answer after) → OnErr r (after ≡ before)
    → KeepsInvariant sys after
step_keeps sys law before after e (Ok answer) rule takes same =
    subst (KeepsInvariant sys) (sym takes.state_is) (event_keeps sys law before e rule takes.enabled)
step_keeps sys law before after e (Err fault) rule takes same = subst (KeepsInvariant sys) (sym same) rule
