-- Rows of paths. A path on the operand stack is a base, which is a location or a value, with its steps above it; the walk is the
-- rule of the language, by the class whose code runs.
use Rattle.std.specs.Prelude.{ℕ, zero, suc, Bool, true, false, ◌||◌, List, [], ◌∷◌, slice_get, Option, None, Some, Result, if◌then◌else◌}
use Rattle.std.specs.Option.{option_map_or}
use Rattle.hph_php.specs.declared.fatal.Fatal.{Fatal}
use Rattle.hph_php.specs.declared.fatal.Fatal.TheVariants.{BadArgument}
use Rattle.hph_php.specs.declared.operator.BinOp.{BinOp}
use Rattle.hph_php.specs.Builtins.{is_object}
use Rattle.hph_php.specs.Codes.{binary_with}
use Rattle.hph_php.specs.Values.{Value}
use Rattle.hph_php.specs.Operators.{binary_of, incremented, decremented}
use Rattle.hph_php.specs.Arrays.{Array}
use Rattle.hph_php.specs.State.{Core, Places, on_heap, on_places, with_objects, value_at, write_at}
use Rattle.hph_php.specs.Calls.{pushed, without_last}
use Rattle.hph_php.specs.Paths.{PathStep, by_property, read_path, try_path, Written, unset_path, Stored, old_value, assign_at, operate_at, update_at, change_array_at}
use Rattle.hph_effects.specs.Hosts.{Item, a_value, a_place, a_step, HostState, Replied, fails, done, gives, with_stack, with_core, push, on_ok, settled, found, only_if, popped, the_value, popped_all}
use Rattle.hph_effects.specs.Slots.{in_class}

-- a path on the operand stack: its base, its steps, and the items below
pub record Walk : Type 0 where
  pub base : Item
  pub steps : List PathStep
  pub below : List Item

-- so many steps are taken, onto those behind them
abbrev pub walk_onto : List PathStep → ℕ → List Item → Option Walk
walk_onto behind zero (base ∷ below) = Some (record { base = base; steps = behind; below = below })
walk_onto behind (suc d) (a_step s ∷ stack) = walk_onto (s ∷ behind) d stack
walk_onto behind _ _ = None

-- what is at a base, if it isn't unset
abbrev pub base_value : Places → Item → Option (Option Value)
base_value places (a_place l) = Some (value_at places l)
base_value places (a_value v) = Some (Some v)
base_value places _ = None

-- a path of so many steps, with what is at its base
abbrev pub walked : ℕ → HostState → (Item → List PathStep → Option Value → HostState → Replied) → Replied
walked d h go = found (walk_onto [] d h.stack) h (λ w.
    found (base_value h.core.places w.base) h (λ place. go w.base w.steps place (with_stack w.below h)))

-- ---- paths that are written

-- from a value that is no object a write goes by `->` alone (the steps come first, so that this computes for any value)
abbrev pub goes_from : List PathStep → Value → Bool
goes_from [] v = false
goes_from (by_property name ∷ steps) v = true
goes_from (s ∷ steps) v = is_object v

abbrev pub is_writable : Item → List PathStep → Bool
is_writable (a_value v) steps = goes_from steps v
is_writable base steps = true

-- what a location has after a write that leaves it, or changes it
abbrev pub write_if : ℕ → Option Value → Core → Core
write_if l None core = core
write_if l (Some v) core = on_places (write_at l v) core

-- the objects and the base after a write
abbrev pub written : Item → Written → Core → Core
written (a_place l) w core = write_if l w.place (on_heap (with_objects w.objects) core)
written base w core = on_heap (with_objects w.objects) core

-- the value of a rule is pushed, and what it wrote is there
abbrev pub stored : Item → Result Stored Fatal → HostState → Replied
stored base r h = on_ok r h (λ s. done (push s.0 (with_core (written base s.1) h)))

abbrev pub walked_for : (Item → List PathStep → Bool) → ℕ → HostState →
    (Item → List PathStep → Option Value → HostState → Replied) → Replied
walked_for fits d h go = walked d h (λ base steps place below. only_if (fits base steps) h (go base steps place below))

-- ---- rows, each with what it does behind the walk

abbrev pub got : Item → List PathStep → Option Value → HostState → Replied
got base steps place h = in_class h (λ class. settled (read_path h.core.heap class (old_value place) steps) h)

abbrev pub path_get : ℕ → HostState → Replied
path_get d h = walked d h got

abbrev pub assigned : Value → Item → List PathStep → Option Value → HostState → Replied
assigned v base steps place h = in_class h (λ class. stored base (assign_at class steps v h.core.heap place) h)

abbrev pub path_set : ℕ → HostState → Replied
path_set d h = popped h (λ v h. walked_for is_writable d h (assigned v))

abbrev pub operated : BinOp → Value → Item → List PathStep → Option Value → HostState → Replied
operated op v base steps place h = in_class h (λ class. stored base (operate_at class (binary_of op) steps v h.core.heap place) h)

abbrev pub path_op : ℕ → ℕ → HostState → Replied
path_op d code h = found (binary_with code) h (λ op. popped h (λ v h. walked_for is_writable d h (operated op v)))

-- how `++` and `--` move a value, and which of the old and the new one they give
pub record Move : Type 0 where
  pub move : Value → Result Value Fatal
  pub which : Value → Value → Value

abbrev pub moves : List Move
moves =
    record { move = incremented; which = λ old new. new }
    ∷ record { move = decremented; which = λ old new. new }
    ∷ record { move = incremented; which = λ old new. old }
    ∷ record { move = decremented; which = λ old new. old } ∷ []

abbrev pub updated : Move → Item → List PathStep → Option Value → HostState → Replied
updated m base steps place h = in_class h (λ class. stored base (update_at class m.move m.which steps h.core.heap place) h)

abbrev pub path_inc : ℕ → ℕ → HostState → Replied
path_inc d mode h = found (slice_get moves mode) h (λ m. walked_for is_writable d h (updated m))

-- the value, if it is set
abbrev pub tried : List PathStep → Option Value → HostState → Option ℕ → Option Value
tried steps place h class = option_map_or (λ v. try_path h.core.heap class v steps) place None

-- the value and 1, or 0
abbrev pub if_set : Option Value → HostState → HostState → Replied
if_set None otherwise below = gives 0 otherwise
if_set (Some v) otherwise below = gives 1 (push v below)

-- at 0 a host is left as it was before
abbrev pub tested : HostState → Item → List PathStep → Option Value → HostState → Replied
tested otherwise base steps place h = in_class h (λ class. if_set (tried steps place h class) otherwise h)

abbrev pub path_keep : ℕ → HostState → Replied
path_keep d h = walked d h (tested h)

-- at 0 the path is gone too
abbrev pub path_try : ℕ → HostState → Replied
path_try d h = walked d h (λ base steps place h. tested h base steps place h)

abbrev pub unset : Item → List PathStep → Option Value → HostState → Replied
unset base steps place h = in_class h (λ class.
    on_ok (unset_path h.core.heap class steps place) h (λ r. done (with_core (written base r) h)))

abbrev pub path_unset : ℕ → HostState → Replied
path_unset d h = walked_for is_writable d h unset

-- a value without steps holds no array that could be changed
abbrev pub is_mere_value : Item → List PathStep → Bool
is_mere_value (a_value v) [] = true
is_mere_value base steps = false

abbrev pub is_changeable : Item → List PathStep → Bool
is_changeable base steps = is_mere_value base steps || is_writable base steps

abbrev pub changed : (Array Value → Result (Array Value × Value) Fatal) → Item → List PathStep → Option Value → HostState → Replied
changed go base steps place h = if is_mere_value base steps then fails BadArgument h
    else in_class h (λ class. stored base (change_array_at class go steps h.core.heap place) h)

abbrev pub change_array : ℕ → (Array Value → Result (Array Value × Value) Fatal) → HostState → Replied
change_array d go h = walked_for is_changeable d h (changed go)

abbrev pub path_push : ℕ → ℕ → HostState → Replied
path_push d n h = popped_all the_value n h (λ vs h. change_array d (pushed vs) h)

abbrev pub path_pop : ℕ → HostState → Replied
path_pop d h = change_array d without_last h
