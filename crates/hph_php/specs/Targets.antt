-- Paths as expressions: a base, and steps that are evaluated from left to right. Then a path is read, tested, written or unset
-- (PHP manual, Variables, Expressions). A base that is a variable is walked from the location that it has at the time of the walk.
use Rattle.std.specs.Prelude.{ℕ, true, false, not, List, [], ◌∷◌, Option, None, Some, Result}
use Rattle.std.specs.Option.{option_map_or}
use Rattle.hph_php.specs.declared.fatal.Fatal.{Fatal}
use Rattle.hph_php.specs.Values.{Value, Boolean}
use Rattle.hph_php.specs.Conversions.{to_bool}
use Rattle.hph_php.specs.State.{State, Heap, Name, on_core, on_places, on_heap, with_objects, value_at, write_at, variable_value, set_variable, place_variable}
use Rattle.hph_php.specs.Answers.{Means, bind, first, give, look, change, by_state, settle}
use Rattle.hph_php.specs.Paths.{PathStep, read_path, try_path, unless_null, Written, unset_path, Stored, old_value, assign_at, operate_at, update_at}

pub data Base : Type 0 where
  a_variable : (name : Name) → Base
  a_location : (location : ℕ) → Base
  a_value : (value : Value) → Base

-- what an expression is to the node around it: a variable, another path, a text that begins with `__DIR__`, or another value
pub data Form : Type 0 where
  plain_variable : (name : Name) → Form
  a_path : Form
  from_directory : Form
  another : Form

-- what an expression means: its value, and as a path its base and its steps
pub record Reading : Type 0 where
  pub form : Form
  pub value : Means Value
  pub base : Means Base
  pub steps : Means (List PathStep)

-- an expression that is no path
abbrev pub valued : Means Value → Reading
valued m = record { form = another; value = m; base = bind m (λ v. give (a_value v)); steps = give [] }

abbrev pub variable_base : Name → Means Base
variable_base name = first (change (place_variable name)) (give (a_variable name))

-- what is at a base, if it isn't unset
abbrev pub at_base : Base → State → Option Value
at_base (a_variable name) st = variable_value name st
at_base (a_location location) st = value_at st.core.places location
at_base (a_value value) st = Some value

abbrev pub set_base : Base → Value → State → State
set_base (a_variable name) value st = set_variable name value st
set_base (a_location location) value st = on_core (on_places (write_at location value)) st
set_base (a_value value) old st = st

abbrev pub set_if : Base → Option Value → State → State
set_if base None st = st
set_if base (Some value) st = set_base base value st

-- the objects and the base after a write
abbrev pub stored : Base → Written → State → State
stored base w st = set_if base w.place (on_core (on_heap (with_objects w.objects)) st)

-- what a rule makes of what is at a base, and the value that it gives
abbrev pub store : Base → (Heap → Option Value → Result Stored Fatal) → Means Value
store base rule = by_state (λ st.
    bind (settle (rule st.core.heap (at_base base st))) (λ s. first (change (stored base s.1)) (give s.0)))

-- a base with its steps
abbrev pub along : {A : Type 0} → Reading → (Base → List PathStep → Means A) → Means A
along x go = bind x.base (λ base. bind x.steps (go base))

-- the value that there is, or else another
abbrev pub value_or : Option Value → Means Value → Means Value
value_or None m = m
value_or (Some v) m = give v

abbrev pub is_empty_value : Option Value → Value
is_empty_value v = Boolean (option_map_or (λ w. not (to_bool w)) v true)

module _ (within : Option ℕ) where
  abbrev pub read_from : Base → List PathStep → Means Value
  read_from base steps = by_state (λ st. settle (read_path st.core.heap within (old_value (at_base base st)) steps))

  -- the value, if it is set
  abbrev pub try_from : Base → List PathStep → Means (Option Value)
  try_from base steps = look (λ st. option_map_or (λ v. try_path st.core.heap within v steps) (at_base base st) None)

  abbrev pub write_to : Base → List PathStep → Value → Means Value
  write_to base steps value = store base (assign_at within steps value)

  abbrev pub unset_from : Base → List PathStep → Means (Unit {0})
  unset_from base steps = by_state (λ st.
      bind (settle (unset_path st.core.heap within steps (at_base base st))) (λ w. change (stored base w)))

  -- ---- expressions

  abbrev pub read : Reading → Means Value
  read x = along x read_from

  abbrev pub try_by : Form → Reading → Means (Option Value)
  try_by (plain_variable name) x = along x try_from
  try_by a_path x = along x try_from
  try_by _ x = bind x.value (λ v. give (unless_null v))

  -- A path is set if each step is and the value isn't null, another expression if its value isn't null.
  abbrev pub try : Reading → Means (Option Value)
  try x = try_by x.form x

  -- `x = y`: a path's base and keys, then the right side, then the walk
  abbrev pub assign_by : Form → Reading → Means Value → Means Value
  assign_by (plain_variable name) x y = bind y (λ v. first (change (set_variable name v)) (give v))
  assign_by _ x y = along x (λ base steps. bind y (λ v. write_to base steps v))

  abbrev pub assign : Reading → Means Value → Means Value
  assign x y = assign_by x.form x y

  -- `x op= y`: the old value is read after the right side
  abbrev pub assign_with : (Value → Value → Result Value Fatal) → Reading → Means Value → Means Value
  assign_with op x y = along x (λ base steps. bind y (λ v. store base (operate_at within op steps v)))

  -- `x ??= y`: the right side is evaluated only where x isn't set
  abbrev pub assign_if_unset : Reading → Means Value → Means Value
  assign_if_unset x y = along x (λ base steps. bind (try_from base steps) (λ old.
      value_or old (bind y (λ v. write_to base steps v))))

  -- `++` and `--`, which give the new value or the old one
  abbrev pub update : (Value → Result Value Fatal) → (Value → Value → Value) → Reading → Means Value
  update move which x = along x (λ base steps. store base (update_at within move which steps))

  -- isset stops at the first that isn't set
  abbrev pub all_set : List Reading → Means Value
  all_set [] = give (Boolean true)
  all_set (x ∷ xs) = bind (try x) (λ v. option_map_or (λ _. all_set xs) v (give (Boolean false)))
