-- Rows of functions and of the frames of calls. The items of a call are its arguments, the first one lowest.
use Rattle.std.specs.Prelude.{ℕ, zero, suc, ◌||◌, not, List, [], ◌∷◌, nat_lt, Option, None, Some, if◌then◌else◌}
use Rattle.hph_php.specs.declared.fatal.Fatal.TheVariants.{TooFewArguments}
use Rattle.hph_php.specs.Codes.{builtin_with}
use Rattle.hph_php.specs.Builtins.{Reply, builtin_of}
use Rattle.hph_php.specs.Values.{Obj}
use Rattle.hph_php.specs.State.{Located, on_places, class_numbered}
use Rattle.hph_php.specs.World.{Receiver, no_receiver, a_class, an_object, Argument, by_value, by_reference}
use Rattle.hph_php.specs.Calls.{function_in, bind_arguments, late_class_of, this_of}
use Rattle.hph_php.specs.Executions.{declare_in}
use Rattle.hph_effects.specs.Hosts.{Item, a_value, a_place, class_item, Slots, HostFrame, HostState, Replied, fails, misuse, done, gives_code, with_heap, print, on_ok, settled, found, only_if, popped_text, popped_as, the_value, popped_all}
use Rattle.hph_effects.specs.Slots.{by_slot}

-- ---- functions

abbrev pub fn_declare : ℕ → HostState → Replied
fn_declare code h = popped_text h (λ name h. on_ok (declare_in name code h.core.heap) h (λ heap. done (with_heap (λ _. heap) h)))

abbrev pub fn_find : HostState → Replied
fn_find h = popped_text h (λ name h. on_ok (function_in name h.core.heap) h (λ code. gives_code code h))

-- what a function that is built in prints, and its value
abbrev pub replied : Reply → HostState → Replied
replied r h = settled r.value (print r.printed h)

abbrev pub builtin : ℕ → ℕ → HostState → Replied
builtin code n h = found (builtin_with code) h (λ function. popped_all the_value n h (λ vs h. replied (builtin_of function vs) h))

-- ---- frames

-- values and locations alone are arguments
abbrev pub the_argument : Item → Option Argument
the_argument (a_value v) = Some (by_value v)
the_argument (a_place l) = Some (by_reference l)
the_argument _ = None

-- the slots of so many parameters
abbrev pub slots_from : ℕ → ℕ → List ℕ
slots_from s zero = []
slots_from s (suc p) = s ∷ slots_from (suc s) p

-- the slots of a new frame and the places, once the first parameters have the arguments
abbrev pub with_parameters : ℕ → List Argument → HostState → Located Slots
with_parameters p args h = bind_arguments by_slot (slots_from 0 p) args (record { variables = []; places = h.core.places })

-- in a new frame of so many slots, for code of a class, or of none, that is called on something
abbrev pub framed : ℕ → Option ℕ → Receiver → Located Slots → HostState → HostState
framed k class receiver bound h = record h {
  core = on_places (λ _. bound.places) h.core;
  frames = record {
    size = k;
    slots = bound.variables;
    class = class;
    static_class = late_class_of h.core.heap receiver;
    object = this_of receiver;
  } ∷ h.frames;
}

-- The first parameters are slots of the frame, and those that are required are parameters.
abbrev pub sized : ℕ → ℕ → ℕ → HostState → Replied → Replied
sized k p m h go = only_if (not (nat_lt k p || nat_lt p m)) h go

abbrev pub opened : ℕ → ℕ → ℕ → ℕ → Option ℕ → Receiver → List Argument → HostState → Replied
opened k p m n class receiver args h =
    if nat_lt n m then fails TooFewArguments h else done (framed k class receiver (with_parameters p args h) h)

abbrev pub enter : ℕ → ℕ → ℕ → ℕ → HostState → Replied
enter k p m n h = sized k p m h (popped_all the_argument n h (λ args h. opened k p m n None no_receiver args h))

-- what a method is called on: an object, or a class as the late static class of a static one
abbrev pub the_receiver : Item → Option Receiver
the_receiver (a_value (Obj object)) = Some (an_object object)
the_receiver (class_item class) = Some (a_class class)
the_receiver _ = None

-- of a method that is declared in a class
abbrev pub opened_on : ℕ → ℕ → ℕ → ℕ → ℕ → List Argument → HostState → Replied
opened_on k p m n decl args h = popped_as the_receiver h (λ receiver h. opened k p m n (Some decl) receiver args h)

abbrev pub enter_m : ℕ → ℕ → ℕ → ℕ → ℕ → HostState → Replied
enter_m k p m n decl h = sized k p m h (found (class_numbered decl h.core.heap) h (λ class.
    popped_all the_argument n h (opened_on k p m n decl)))

abbrev pub left : List HostFrame → HostState → Replied
left [] h = misuse h
left (f ∷ fs) h = done (record h { frames = fs })

abbrev pub leave : HostState → Replied
leave h = left h.frames h
