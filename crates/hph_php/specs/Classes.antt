-- Classes and objects (PHP manual, Classes and Objects, Late Static Bindings, Scope Resolution Operator): which class an
-- expression names, methods, objects, constants and static properties.
use Rattle.std.specs.Prelude.{ℕ, zero, suc, Bool, true, false, List, [], ◌∷◌, fold, Option, None, Some, Result, Ok, Err, if◌then◌else◌, codes}
use Rattle.std.specs.Option.{option_map, option_map_or, unwrap_or, ok_or}
use Rattle.hph_php.specs.declared.fatal.Fatal.{Fatal}
use Rattle.hph_php.specs.declared.fatal.Fatal.TheVariants.{UndefinedClass, NotObject, StaticCall}
use Rattle.hph_php.specs.Values.{Value, Boolean, Obj}
use Rattle.hph_php.specs.Conversions.{and_then, map_ok}
use Rattle.hph_php.specs.State.{State, Heap, Class, Name, with_named, class_named, class_numbered, class_of, class_of_object, next_object, object_in, write_at, place_static, placed_static, initial_due, late_class, this_object}
use Rattle.hph_php.specs.Members.{Declared, is_kind_of, lineage, method_of, seen, method_for, constant_for, static_property_for}
use Rattle.hph_php.specs.Answers.{Means, bind, first, give, look, by_state, by_heap, change_heap, change_places, settle}
use Rattle.hph_php.specs.World.{World, Context, Receiver, a_class, an_object}
use Rattle.hph_php.specs.Targets.{Reading}
use Rattle.hph_php.specs.Calls.{arguments}

-- The class that an expression names: its number, or none where it isn't declared; and whether a call by it passes on the late
-- static class.
pub record ClassChoice : Type 0 where
  pub number : Means (Option ℕ)
  pub forwards : Bool

-- ---- the class that is named

abbrev pub number_of_class : Option Class → Option ℕ
number_of_class c = option_map (λ (c : Class). c.number) c

-- a class that is declared
abbrev pub class_in : Name → Heap → Result ℕ Fatal
class_in name heap = ok_or (number_of_class (class_named name heap)) UndefinedClass

abbrev pub named_class : Name → ClassChoice
named_class name = record { number = look (λ st. number_of_class (class_named name st.core.heap)); forwards = false }

abbrev pub parent_in : Heap → Option ℕ → Option ℕ
parent_in heap class = option_map_or (λ number. option_map_or (λ (c : Class). c.parent) (class_numbered number heap) None) class None

module _ (context : Context) where
  abbrev pub self_class : ClassChoice
  self_class = record { number = give context.class; forwards = true }

  abbrev pub parent_class : ClassChoice
  parent_class = record { number = look (λ st. parent_in st.core.heap context.class); forwards = true }

-- that of the frame
abbrev pub static_class : ClassChoice
static_class = record { number = look late_class; forwards = true }

abbrev pub declared : ClassChoice → Means ℕ
declared c = bind c.number (λ number. settle (ok_or number UndefinedClass))

-- `x instanceof C`: false for what is no object and for a class that isn't declared
abbrev pub is_instance : Heap → Value → Option ℕ → Bool
is_instance heap (Obj object) (Some class) = option_map_or (λ c. is_kind_of heap c class) (class_of heap object) false
is_instance heap _ _ = false

abbrev pub instance_of : Value → ClassChoice → Means Value
instance_of v c = bind c.number (λ class. look (λ st. Boolean (is_instance st.core.heap v class)))

-- ---- which code a call of a method runs, and on what

pub record Called : Type 0 where
  pub code : ℕ
  pub receiver : Receiver

-- a method of an object: a static one is called on the object's class
abbrev pub on_object : ℕ → ℕ → Declared → Called
on_object object class d =
    record { code = d.member.code; receiver = if d.member.is_static then a_class class else an_object object }

-- `$this` is kept if it is an instance of the class
abbrev pub kept_object : Heap → Option ℕ → ℕ → Option ℕ
kept_object heap this class =
    option_map_or (λ object. if is_instance heap (Obj object) (Some class) then Some object else None) this None

-- a method that is called by its class: a static one on the late static class, another one on the `$this` that is kept
abbrev pub on_class : Option ℕ → ℕ → ℕ → Declared → Heap → Result Called Fatal
on_class this class late d heap =
    if d.member.is_static then Ok (record { code = d.member.code; receiver = a_class late })
    else option_map_or (λ object. Ok (record { code = d.member.code; receiver = an_object object })) (kept_object heap this class)
    (Err StaticCall)

module _ (within : Option ℕ) where
  -- `$x->m()`
  abbrev pub method_on : Value → Name → Heap → Result Called Fatal
  method_on (Obj object) name heap =
      map_ok (on_object object (class_of_object heap object)) (method_for within (class_of_object heap object) name heap)
  method_on _ name heap = Err NotObject

  -- `C::m()`, with the `$this` and the late static class that it may pass on
  abbrev pub method_by : Option ℕ → ℕ → ℕ → Name → Heap → Result Called Fatal
  method_by this class late name heap = and_then (method_for within class name heap) (λ d. on_class this class late d heap)

  -- the constructor of a new object of a class, if it has one
  abbrev pub constructor_for : ℕ → ℕ → Heap → Result (Option Called) Fatal
  constructor_for object class heap = option_map_or (λ d. map_ok (λ d. Some (on_object object class d)) (seen heap within d))
      (method_of heap class (codes "__construct")) (Ok None)

-- `self`, `parent` and `static` pass on the late static class, a name sets it
abbrev pub called_class : Bool → ℕ → State → ℕ
called_class forwards class st = if forwards then unwrap_or (late_class st) class else class

module _ (world : World) (context : Context) where
  abbrev pub call_with : Name → List Reading → Called → Means Value
  call_with name xs called = bind (arguments context.program true name xs) (λ args. world.call called.code called.receiver args)

  abbrev pub call_method : Means Value → Name → List Reading → Means Value
  call_method x name xs = bind x (λ v. bind (by_heap (method_on context.class v name)) (call_with name xs))

  abbrev pub call_static : ClassChoice → Name → List Reading → Means Value
  call_static c name xs = bind (declared c) (λ class. bind (by_state (λ st.
      by_heap (method_by context.class (this_object st) class (called_class c.forwards class st) name))) (call_with name xs))

  -- ---- `new C`

  -- initial values, an ancestor's first; one that is declared again takes the place of the ancestor's
  abbrev pub initials_of : List Class → Means (List (Name × Value))
  initials_of [] = give []
  initials_of (c ∷ cs) = bind (initials_of cs) (λ before. bind (world.initials c.initial) (λ values.
      give (fold (λ (ps : List (Name × Value)) p. with_named ps p.0 p.1) before values)))

  -- the object is there when it has all its initial values
  abbrev pub make_object : ℕ → Means ℕ
  make_object class = bind (by_state (λ st. initials_of (lineage st.core.heap class))) (λ values. by_state (λ st.
      first (change_heap (object_in class values)) (give (next_object st.core.heap))))

  -- arguments without a constructor are evaluated and dropped
  abbrev pub construct : ℕ → List Reading → Option Called → Means Value
  construct object xs None = bind (arguments context.program true (codes "__construct") xs) (λ args. give (Obj object))
  construct object xs (Some called) = bind (call_with (codes "__construct") xs called) (λ v. give (Obj object))

  abbrev pub new_object : ClassChoice → List Reading → Means Value
  new_object c xs = bind (declared c) (λ class. bind (make_object class) (λ object.
      bind (by_heap (constructor_for context.class object class)) (construct object xs)))

  -- ---- constants and static properties

  abbrev pub class_constant : ClassChoice → Name → Means Value
  class_constant c name = bind (declared c) (λ class. bind (by_heap (constant_for class name)) (λ d. world.constant d.member.code))

  -- the location's initial value is evaluated by the code that is due
  abbrev pub initialised : ℕ → ℕ → Means ℕ
  initialised location zero = give location
  initialised location (suc code) =
      bind (world.initial (suc code)) (λ v. first (change_places (write_at location v)) (give location))

  abbrev pub initialise : Declared → ℕ → Means ℕ
  initialise d location = by_state (λ st. initialised location (initial_due location d.member.code st.core.places))

  -- the location of `C::$p`, made at the first access
  abbrev pub static_location : ClassChoice → Name → Means ℕ
  static_location c name = bind (declared c) (λ class. bind (by_heap (static_property_for context.class class name)) (λ d.
      first (change_places (place_static d.class name))
      (bind (look (λ st. placed_static d.class name st.core.places)) (initialise d))))
