-- Rows of variables, which a frame has by slots: the functions on variables of any kind, as the run of a program has them by names.
use Rattle.std.specs.Prelude.{ℕ, not, is_some}
use Rattle.std.specs.Option.{unwrap_or}
use Rattle.hph_php.specs.Values.{Value, Null, Obj}
use Rattle.hph_php.specs.State.{static_variable}
use Rattle.hph_php.specs.State as state
use Rattle.hph_effects.specs.Hosts.{a_place, HostState, Replied, done, gives_truth, push, push_item, found, popped}
use Rattle.hph_effects.specs.Slots.{by_slot, slots_of, with_slots, located, on_located, on_globals, at_slot, on_this}

-- null if the slot is unset
abbrev pub slot_value : ℕ → HostState → Value
slot_value s h = unwrap_or (state.held by_slot s (located h)) Null

abbrev pub get : ℕ → HostState → Replied
get s h = at_slot s h (done (push (slot_value s h) h))

abbrev pub set : ℕ → HostState → Replied
set s h = popped h (λ v h. at_slot s h (done (on_located (state.set by_slot s v) h)))

-- the location of the slot, which has one
abbrev pub push_slot : ℕ → HostState → HostState
push_slot s h = push_item (a_place (state.location_in by_slot s (slots_of h))) h

abbrev pub ref : ℕ → HostState → Replied
ref s h = at_slot s h (done (push_slot s (on_located (state.place by_slot s) h)))

abbrev pub this : HostState → Replied
this h = on_this h (λ object. found object h (λ o. done (push (Obj o) h)))

abbrev pub bind : ℕ → ℕ → HostState → Replied
bind s t h = at_slot s h (at_slot t h (done (on_located (state.share by_slot s t) h)))

-- the slot has the location of a slot of the first frame, which has one
abbrev pub bound_to_global : ℕ → ℕ → HostState → HostState
bound_to_global s g h = with_slots (by_slot.bind s (state.location_in by_slot g h.globals) (slots_of h)) h

abbrev pub bind_global : ℕ → ℕ → HostState → Replied
bind_global s g h = at_slot s h (done (bound_to_global s g (on_globals (state.place by_slot g) h)))

-- the static variable of a number is new if it has no location yet
abbrev pub bind_static : ℕ → ℕ → HostState → Replied
bind_static s number h = at_slot s h
    (gives_truth (not (is_some (static_variable number h.core.places))) (on_located (state.bind_static by_slot s number) h))

abbrev pub unset : ℕ → HostState → Replied
unset s h = at_slot s h (done (with_slots (by_slot.unbind s (slots_of h)) h))
