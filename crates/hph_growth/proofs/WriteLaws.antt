-- Writing and unsetting along a path keeps that answers stay.
use Rattle.std.proofs.Common.{ℕ, List, refl}
use Rattle.std.specs.Prelude.{Option, None, Some, Result}
use Rattle.hph_php.specs.declared.fatal.Fatal.{Fatal}
use Rattle.hph_php.specs.Values.{Value}
use Rattle.hph_php.specs.State.{State, Heap, on_core, on_heap, with_objects}
use Rattle.hph_php.specs.Paths.{PathStep, Written, Stored, assign_at, unset_path}
use Rattle.hph_php.specs.Targets.{Base, a_variable, a_location, a_value, at_base, set_if, stored, store, write_to, unset_from}
use Rattle.hph_growth.specs.Growth.{Grows}
use Rattle.hph_growth.proofs.GrowthLaws.{give_grows, settle_grows, bind_grows, first_grows, by_state_grows}
use Rattle.hph_growth.proofs.StateLaws.{Same, same_grows}

set_if_same : (base : Base) (value : Option Value) (before st : State) → Same before st → Same before (set_if base value st)
set_if_same base None before st p = p
set_if_same (a_variable name) (Some value) before st p = record { out = p.out; called = p.called }
set_if_same (a_location location) (Some value) before st p = record { out = p.out; called = p.called }
set_if_same (a_value old) (Some value) before st p = p

stored_same : (base : Base) (w : Written) (st : State) → Same st (stored base w st)
stored_same base w st = set_if_same base w.place st (on_core (on_heap (with_objects w.objects)) st) (record { out = refl; called = refl })

pub store_grows : (base : Base) (rule : Heap → Option Value → Result Stored Fatal) → Grows (store base rule) (store base rule)
store_grows base rule = by_state_grows (λ st. bind_grows (settle_grows (rule st.core.heap (at_base base st)))
    (λ s. first_grows (same_grows (stored base s.1) (stored_same base s.1)) (give_grows s.0)))

pub write_to_grows : (within : Option ℕ) (base : Base) (steps : List PathStep) (value : Value) →
    Grows (write_to within base steps value) (write_to within base steps value)
write_to_grows within base steps value = store_grows base (assign_at within steps value)

pub unset_from_grows : (within : Option ℕ) (base : Base) (steps : List PathStep) →
    Grows (unset_from within base steps) (unset_from within base steps)
unset_from_grows within base steps = by_state_grows (λ st.
    bind_grows (settle_grows (unset_path st.core.heap within steps (at_base base st))) (λ w. same_grows (stored base w) (stored_same base w)))
