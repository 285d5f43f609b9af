-- The state of a run: what is printed, variables by way of locations, objects, what is declared, and the frames of the functions
-- that run (PHP manual, Variable scope, References Explained, Classes and Objects). A host keeps the same core. A rule changes
-- only a part of the core, so that the rest stays by computation.
use Rattle.std.specs.Prelude.{pos, ◌≡◌, ◌==◌, ◌&&◌, ◌++◌, ℕ, Bool, List, [], ◌∷◌, length, map, Option, None, Some, bytes_eq, codes}
use Rattle.std.specs.Prelude.{slice_get, slice_set, find, if◌then◌else◌, is_some}
use Rattle.std.specs.List.{list_any}
use Rattle.std.specs.Map.{lookup, remove_entry}
use Rattle.std.specs.Option.{option_map, option_map_or, unwrap_or}
use Rattle.std.specs.Char.{to_ascii_lowercase}
use Rattle.std.proofs.Common.{refl}
use Rattle.hph_php.specs.Values.{Value, Null, Int}

-- names of variables, properties and constants are told apart by each byte; those of functions, classes and methods go by
-- their lower case (PHP manual, User-defined functions)
abbrev pub Name : Type 0
Name = List ℕ

abbrev pub folded : Name → Name
folded name = map to_ascii_lowercase name

abbrev pub named : {A : Type 0} → Name → List (Name × A) → Option A
named name pairs = lookup (bytes_eq name) pairs

-- with this at the name: in its place if the name is there, else as the last
abbrev pub with_named : {A : Type 0} → List (Name × A) → Name → A → List (Name × A)
with_named [] name a = (name, a) ∷ []
with_named (p ∷ ps) name a = if bytes_eq name p.0 then (p.0, a) ∷ ps else p ∷ with_named ps name a

abbrev pub joined : {A : Type 0} → Option (Option A) → Option A
joined None = None
joined (Some o) = o

-- ---- what a state has

-- an object is of a class, which goes by its number, and has a value for each of its properties
pub record Object : Type 0 where
  pub class : ℕ
  pub properties : List (Name × Value)

-- who may use a member (PHP manual, Visibility)
pub data Visibility : Type 0 where
  Public : Visibility
  Protected : Visibility
  Private : Visibility

-- A member of a class. Its code is the number of what runs for it: a method's body, a constant's value, or the initial value
-- of a static property, 0 where it has none.
pub record Member : Type 0 where
  pub name : Name
  pub visibility : Visibility
  pub is_static : Bool
  pub code : ℕ

-- A declared class: its name in lower case, its number, the number of its parent, its members in order of text, and the
-- number of the code of its initial values.
pub record Class : Type 0 where
  pub name : Name
  pub number : ℕ
  pub parent : Option ℕ
  pub constants : List Member
  pub properties : List Member
  pub methods : List Member
  pub initial : ℕ

-- a place of a program: a file's number and an offset
pub record Site : Type 0 where
  pub file : ℕ
  pub offset : ℕ

abbrev pub is_site : Site → Site → Bool
is_site a b = (a.file == b.file) && (a.offset == b.offset)

-- A static property has a location for its class.
pub record StaticProperty : Type 0 where
  pub class : ℕ
  pub name : Name
  pub location : ℕ

-- Locations go by their numbers, and each has a value or is unset. A static variable goes by its number among those of the
-- program, and has a location from its first passage on.
pub record Places : Type 0 where
  pub locations : List (Option Value)
  pub static_variables : List (ℕ × ℕ)
  pub static_properties : List StaticProperty

-- objects by their numbers, and what is declared: functions with the numbers of their code, classes with the latest first,
-- constants, and the files that were entered
pub record Heap : Type 0 where
  pub objects : List Object
  pub functions : List (Name × ℕ)
  pub classes : List Class
  pub constants : List (Name × Value)
  pub entered : List ℕ

pub record Core : Type 0 where
  pub out : List ℕ
  pub places : Places
  pub heap : Heap

-- variables by name, each with its location
abbrev pub Variables : Type 0
Variables = List (Name × ℕ)

-- What a function that runs has: its variables, the number of its code, its late static class and its `$this`. A constant of a
-- class and initial values run in a frame too.
pub record Frame : Type 0 where
  pub variables : Variables
  pub code : ℕ
  pub static_class : Option ℕ
  pub object : Option ℕ

-- The frame of the function that runs stands first, and its callers' follow; the code at the top level has the global variables
-- and no frame. `called` are the functions and methods whose bodies were begun, by their codes, in order.
pub record State : Type 0 where
  pub core : Core
  pub globals : Variables
  pub frames : List Frame
  pub called : List ℕ

abbrev pub empty_places : Places
empty_places = record { locations = []; static_variables = []; static_properties = [] }

abbrev pub empty_heap : Heap
empty_heap = record { objects = []; functions = []; classes = []; constants = []; entered = [] }

abbrev pub empty_core : Core
empty_core = record { out = []; places = empty_places; heap = empty_heap }

abbrev pub empty_state : State
empty_state = record { core = empty_core; globals = []; frames = []; called = [] }

-- ---- parts of the core

abbrev pub printed : List ℕ → Core → Core
printed bytes core = record core { out = core.out ++ bytes }

abbrev pub on_places : (Places → Places) → Core → Core
on_places change core = record core { places = change core.places }

abbrev pub on_heap : (Heap → Heap) → Core → Core
on_heap change core = record core { heap = change core.heap }

abbrev pub on_core : (Core → Core) → State → State
on_core change st = record st { core = change st.core }

-- ---- locations

-- the number of the next location, and the places with it
abbrev pub next_location : Places → ℕ
next_location places = length places.locations

abbrev pub with_location : Option Value → Places → Places
with_location value places = record places { locations = places.locations ++ value ∷ [] }

-- the value at a location, if it isn't unset
abbrev pub value_at : Places → ℕ → Option Value
value_at places location = joined (slice_get places.locations location)

abbrev pub write_at : ℕ → Value → Places → Places
write_at location value places = record places { locations = slice_set places.locations location (Some value) }

-- ---- static variables and properties

abbrev pub static_variable : ℕ → Places → Option ℕ
static_variable number places = lookup (λ n. n == number) places.static_variables

abbrev pub with_static_variable : ℕ → ℕ → Places → Places
with_static_variable number location places =
    record places { static_variables = places.static_variables ++ (number, location) ∷ [] }

abbrev pub static_property : ℕ → Name → Places → Option ℕ
static_property class name places =
    option_map (λ (p : StaticProperty). p.location) (find is_such places.static_properties)
  where
    is_such : StaticProperty → Bool
    is_such p = (p.class == class) && bytes_eq name p.name

abbrev pub with_static_property : ℕ → Name → ℕ → Places → Places
with_static_property class name location places =
    record places { static_properties = places.static_properties ++ record { class = class; name = name; location = location } ∷ [] }

-- a static property has a location for the class that declares it, made at the first access
abbrev pub place_static : ℕ → Name → Places → Places
place_static class name places = option_map_or (λ _. places) (static_property class name places)
    (with_static_property class name (next_location places) (with_location None places))

-- its location; `place_static` comes before it
abbrev pub placed_static : ℕ → Name → Places → ℕ
placed_static class name places = unwrap_or (static_property class name places) 0

-- the code that is still to be run for the value of a location, or 0: it stays unset where it has no initial value
abbrev pub initial_due : ℕ → ℕ → Places → ℕ
initial_due location code places = if is_some (value_at places location) then 0 else code

-- ---- objects

abbrev pub next_object : Heap → ℕ
next_object heap = length heap.objects

-- a new object of a class, with all its initial values at once
abbrev pub object_in : ℕ → List (Name × Value) → Heap → Heap
object_in class properties heap = record heap { objects = heap.objects ++ record { class = class; properties = properties } ∷ [] }

abbrev pub class_of : Heap → ℕ → Option ℕ
class_of heap object = option_map (λ (o : Object). o.class) (slice_get heap.objects object)

-- the class of an object that is there
abbrev pub class_of_object : Heap → ℕ → ℕ
class_of_object heap object = unwrap_or (class_of heap object) 0

abbrev pub property_at : List Object → ℕ → Name → Value
property_at objects object name =
    unwrap_or (joined (option_map (λ (o : Object). named name o.properties) (slice_get objects object))) Null

abbrev pub object_with : Name → Value → Object → Object
object_with name value o = record o { properties = with_named o.properties name value }

abbrev pub write_property : ℕ → Name → Value → List Object → List Object
write_property object name value objects = option_map_or changed (slice_get objects object) objects
  where
    changed : Object → List Object
    changed o = slice_set objects object (object_with name value o)

abbrev pub with_objects : List Object → Heap → Heap
with_objects objects heap = record heap { objects = objects }

-- ---- what is declared

abbrev pub with_function : Name → ℕ → Heap → Heap
with_function name code heap = record heap { functions = heap.functions ++ (folded name, code) ∷ [] }

abbrev pub with_class : Class → Heap → Heap
with_class class heap = record heap { classes = class ∷ heap.classes }

-- a name that has a value keeps it
abbrev pub with_constant : Name → Value → Heap → Heap
with_constant name value heap = record heap {
  constants = option_map_or (λ _. heap.constants) (named name heap.constants) (heap.constants ++ (name, value) ∷ []);
}

abbrev pub class_named : Name → Heap → Option Class
class_named name heap = find (λ (c : Class). bytes_eq (folded name) c.name) heap.classes

abbrev pub class_numbered : ℕ → Heap → Option Class
class_numbered number heap = find (λ (c : Class). c.number == number) heap.classes

abbrev pub is_entered : ℕ → Heap → Bool
is_entered file heap = list_any (λ f. f == file) heap.entered

abbrev pub enter : ℕ → Heap → Heap
enter file heap = record heap { entered = if is_entered file heap then heap.entered else file ∷ heap.entered }

-- ---- variables of any kind: by names here, by slots in a host

-- how keys are kept with their locations
pub record Keeping (K V : Type 0) : Type 0 where
  pub find : K → V → Option ℕ
  pub bind : K → ℕ → V → V
  pub unbind : K → V → V

-- variables, with the places that they are in
pub record Located (V : Type 0) : Type 0 where
  pub variables : V
  pub places : Places

module _ {K V : Type 0} (by : Keeping K V) where
  -- the variable has a location, which is a new one, unset, where it had none
  abbrev pub place : K → Located V → Located V
  place key l = record {
    variables = option_map_or (λ _. l.variables) (by.find key l.variables) (by.bind key (next_location l.places) l.variables);
    places = option_map_or (λ _. l.places) (by.find key l.variables) (with_location None l.places);
  }

  -- the location of a variable; `place` comes before it
  abbrev pub location_in : K → V → ℕ
  location_in key variables = unwrap_or (by.find key variables) 0

  -- what a variable has, if it isn't unset
  abbrev pub held : K → Located V → Option Value
  held key l = joined (option_map (value_at l.places) (by.find key l.variables))

  abbrev pub set : K → Value → Located V → Located V
  set key value l = write (place key l)
    where
      write : Located V → Located V
      write m = record m { places = write_at (location_in key m.variables) value m.places }

  -- the first has the location of the second, which is made if there is none
  abbrev pub share : K → K → Located V → Located V
  share x y l = shared (place y l)
    where
      shared : Located V → Located V
      shared m = record m { variables = by.bind x (location_in y m.variables) m.variables }

  -- a new location with this in it
  abbrev pub bind_new : K → Option Value → Located V → Located V
  bind_new key value l = record { variables = by.bind key (next_location l.places) l.variables; places = with_location value l.places }

  -- the location of the static variable of a number, which is a new one, unset, at its first passage
  abbrev pub bind_static : K → ℕ → Located V → Located V
  bind_static key number l = record {
    variables = by.bind key (unwrap_or (static_variable number l.places) (next_location l.places)) l.variables;
    places = option_map_or (λ _. l.places) (static_variable number l.places)
        (with_static_variable number (next_location l.places) (with_location None l.places));
  }

-- ---- variables by name

abbrev pub by_name : Keeping Name Variables
by_name = record {
  find = named;
  bind = λ name location variables. with_named variables name location;
  unbind = λ name variables. remove_entry (bytes_eq name) variables;
}

-- those of the function that runs, or the global ones
abbrev pub variables_in : List Frame → Variables → Variables
variables_in [] globals = globals
variables_in (f ∷ fs) globals = f.variables

abbrev pub variables : State → Variables
variables st = variables_in st.frames st.globals

abbrev pub globals_with : Variables → List Frame → Variables → Variables
globals_with variables [] globals = variables
globals_with variables (f ∷ fs) globals = globals

abbrev pub frames_with : Variables → List Frame → List Frame
frames_with variables [] = []
frames_with variables (f ∷ fs) = record f { variables = variables } ∷ fs

abbrev pub with_variables : Variables → State → State
with_variables variables st = record st {
  globals = globals_with variables st.frames st.globals;
  frames = frames_with variables st.frames;
}

abbrev pub located : State → Located Variables
located st = record { variables = variables st; places = st.core.places }

abbrev pub with_located : Located Variables → State → State
with_located l st = with_variables l.variables (on_core (on_places (λ _. l.places)) st)

abbrev pub on_located : (Located Variables → Located Variables) → State → State
on_located change st = with_located (change (located st)) st

-- the same of the global variables, wherever the code runs
abbrev pub on_globals : (Located Variables → Located Variables) → State → State
on_globals change st = to (change (record { variables = st.globals; places = st.core.places }))
  where
    to : Located Variables → State
    to l = record st { globals = l.variables; core = on_places (λ _. l.places) st.core }

-- the variable has this location from now on
abbrev pub bind_variable : Name → ℕ → State → State
bind_variable name location st = with_variables (by_name.bind name location (variables st)) st

abbrev pub unbind_variable : Name → State → State
unbind_variable name st = with_variables (by_name.unbind name (variables st)) st

abbrev pub place_variable : Name → State → State
place_variable name st = on_located (place by_name name) st

-- the location of a variable; `place_variable` comes before it
abbrev pub placed : Name → State → ℕ
placed name st = location_in by_name name (variables st)

abbrev pub variable_value : Name → State → Option Value
variable_value name st = held by_name name (located st)

abbrev pub set_variable : Name → Value → State → State
set_variable name value st = on_located (set by_name name value) st

-- ---- frames

-- the late static class and the `$this` of the function that runs
abbrev pub late_class_in : List Frame → Option ℕ
late_class_in [] = None
late_class_in (f ∷ fs) = f.static_class

abbrev pub this_in : List Frame → Option ℕ
this_in [] = None
this_in (f ∷ fs) = f.object

abbrev pub late_class : State → Option ℕ
late_class st = late_class_in st.frames

abbrev pub this_object : State → Option ℕ
this_object st = this_in st.frames

abbrev pub with_frames : List Frame → State → State
with_frames frames st = record st { frames = frames }

-- ---- examples

-- $a = 1; with `$b =& $a; $b = 2;` the value of $a is 2
references_share : variable_value (codes "a")
    (set_variable (codes "b") (Int (pos 2))
    (bind_variable (codes "b") 0 (set_variable (codes "a") (Int (pos 1)) empty_state))) ≡ Some (Int (pos 2))
references_share = refl

-- after unset($a) the other name keeps the value
unset_parts : variable_value (codes "b")
    (unbind_variable (codes "a") (bind_variable (codes "b") 0 (set_variable (codes "a") (Int (pos 1)) empty_state))) ≡ Some (Int (pos 1))
unset_parts = refl

-- `Strlen` and `STRLEN` are one function
case_is_ignored : folded (codes "StrLen") ≡ codes "strlen"
case_is_ignored = refl
