-- Frames of a host, and its variables by slots, which are kept as variables by names are in the run of a program.
use Rattle.std.specs.Prelude.{ℕ, zero, suc, Bool, true, List, [], ◌∷◌, nat_lt, slice_get, slice_set, Option, None, Some}
use Rattle.hph_php.specs.State.{Keeping, Located, joined, on_places}
use Rattle.hph_effects.specs.Hosts.{Slots, HostFrame, HostState, Replied, only_if}

-- ---- slots

-- with this location in the slot; slots before it that weren't there have none
abbrev pub with_slot : Slots → ℕ → ℕ → Slots
with_slot [] zero l = Some l ∷ []
with_slot [] (suc s) l = None ∷ with_slot [] s l
with_slot (x ∷ xs) zero l = Some l ∷ xs
with_slot (x ∷ xs) (suc s) l = x ∷ with_slot xs s l

abbrev pub by_slot : Keeping ℕ Slots
by_slot = record {
  find = λ s slots. joined (slice_get slots s);
  bind = λ s location slots. with_slot slots s location;
  unbind = λ s slots. slice_set slots s None;
}

-- ---- the frame of the function that runs, or the first

abbrev pub slots_in : List HostFrame → Slots → Slots
slots_in [] globals = globals
slots_in (f ∷ fs) globals = f.slots

abbrev pub globals_with : Slots → List HostFrame → Slots → Slots
globals_with slots [] globals = slots
globals_with slots (f ∷ fs) globals = globals

abbrev pub frames_with : Slots → List HostFrame → List HostFrame
frames_with slots [] = []
frames_with slots (f ∷ fs) = record f { slots = slots } ∷ fs

-- the first frame has every slot
abbrev pub has_slot : ℕ → List HostFrame → Bool
has_slot s [] = true
has_slot s (f ∷ fs) = nat_lt s f.size

abbrev pub class_in : List HostFrame → Option ℕ
class_in [] = None
class_in (f ∷ fs) = f.class

abbrev pub late_class_in : List HostFrame → Option ℕ
late_class_in [] = None
late_class_in (f ∷ fs) = f.static_class

abbrev pub this_in : List HostFrame → Option ℕ
this_in [] = None
this_in (f ∷ fs) = f.object

-- ---- a host's variables

abbrev pub slots_of : HostState → Slots
slots_of h = slots_in h.frames h.globals

abbrev pub with_slots : Slots → HostState → HostState
with_slots slots h = record h {
  globals = globals_with slots h.frames h.globals;
  frames = frames_with slots h.frames;
}

abbrev pub located : HostState → Located Slots
located h = record { variables = slots_of h; places = h.core.places }

abbrev pub with_located : Located Slots → HostState → HostState
with_located l h = with_slots l.variables (record h { core = on_places (λ _. l.places) h.core })

abbrev pub on_located : (Located Slots → Located Slots) → HostState → HostState
on_located change h = with_located (change (located h)) h

-- the same of the slots of the first frame, wherever the code runs
abbrev pub on_globals : (Located Slots → Located Slots) → HostState → HostState
on_globals change h = to (change (record { variables = h.globals; places = h.core.places }))
  where
    to : Located Slots → HostState
    to l = record h { globals = l.variables; core = on_places (λ _. l.places) h.core }

-- the slot is one of the frame's
abbrev pub at_slot : ℕ → HostState → Replied → Replied
at_slot s h go = only_if (has_slot s h.frames) h go

-- what goes by the class whose code runs, by the late static class, and by `$this`
abbrev pub in_class : HostState → (Option ℕ → Replied) → Replied
in_class h go = go (class_in h.frames)

abbrev pub in_late_class : HostState → (Option ℕ → Replied) → Replied
in_late_class h go = go (late_class_in h.frames)

abbrev pub on_this : HostState → (Option ℕ → Replied) → Replied
on_this h go = go (this_in h.frames)
