-- Classes, methods, objects, constants and static properties keep that answers stay.
use Rattle.std.proofs.Common.{◌≡◌, ℕ, zero, suc, List, [], ◌∷◌, refl, subst}
use Rattle.std.specs.Prelude.{true, fold, Option, None, Some, codes}
use Rattle.std.specs.Option.{ok_or}
use Rattle.hph_php.specs.declared.fatal.Fatal.TheVariants.{UndefinedClass}
use Rattle.hph_php.specs.Values.{Value, Boolean, Obj}
use Rattle.hph_php.specs.State.{Class, Name, with_named, class_named, next_object, object_in, write_at, place_static, placed_static, initial_due, late_class, this_object}
use Rattle.hph_php.specs.Members.{Declared, lineage, constant_for, static_property_for}
use Rattle.hph_php.specs.Answers.{Means}
use Rattle.hph_php.specs.World.{Context}
use Rattle.hph_php.specs.Targets.{Reading}
use Rattle.hph_php.specs.Classes.{ClassChoice, number_of_class, named_class, parent_in, self_class, parent_class, static_class, declared, is_instance, instance_of, Called, method_on, method_by, constructor_for, called_class, call_with, call_method, call_static, initials_of, make_object, construct, new_object, class_constant, initialised, initialise, static_location}
use Rattle.hph_growth.specs.Growth.{Grows}
use Rattle.hph_growth.proofs.GrowthLaws.{give_grows, look_grows, settle_grows, heap_grows, bind_grows, first_grows, by_state_grows}
use Rattle.hph_growth.proofs.StateLaws.{change_heap_grows, change_places_grows}
use Rattle.hph_growth.proofs.TargetLaws.{AllGrow}
use Rattle.hph_growth.proofs.Worlds.{Worlds, earlier, later}
use Rattle.hph_growth.proofs.CallLaws.{arguments_grows}

-- a class that is chosen in one way and in another
pub record ChoiceGrows (c d : ClassChoice) : Type 0 where
  pub number : Grows c.number d.number
  pub forwards : c.forwards ≡ d.forwards

pub data ChoicesGrow : List ClassChoice → List ClassChoice → Type 0 where
  no_choice : ChoicesGrow [] []
  one_choice : {c d : ClassChoice} {cs ds : List ClassChoice} → ChoiceGrows c d → ChoicesGrow cs ds → ChoicesGrow (c ∷ cs) (d ∷ ds)

pub named_class_grows : (name : Name) → ChoiceGrows (named_class name) (named_class name)
named_class_grows name = record { number = look_grows (λ st. number_of_class (class_named name st.core.heap)); forwards = refl }

module _ (context : Context) where
  pub self_class_grows : ChoiceGrows (self_class context) (self_class context)
  self_class_grows = record { number = give_grows context.class; forwards = refl }

  pub parent_class_grows : ChoiceGrows (parent_class context) (parent_class context)
  parent_class_grows = record { number = look_grows (λ st. parent_in st.core.heap context.class); forwards = refl }

pub static_class_grows : ChoiceGrows static_class static_class
static_class_grows = record { number = look_grows late_class; forwards = refl }

pub declared_grows : {c d : ClassChoice} → ChoiceGrows c d → Grows (declared c) (declared d)
declared_grows p = bind_grows p.number (λ number. settle_grows (ok_or number UndefinedClass))

pub instance_grows : (v : Value) {c d : ClassChoice} → ChoiceGrows c d → Grows (instance_of v c) (instance_of v d)
instance_grows v p = bind_grows p.number (λ class. look_grows (λ st. Boolean (is_instance st.core.heap v class)))

module _ (ws : Worlds) (context : Context) where
  call_with_grows : (name : Name) {xs ys : List Reading} → AllGrow xs ys → (called : Called) →
      Grows (call_with (earlier ws) context name xs called) (call_with (later ws) context name ys called)
  call_with_grows name ps called =
      bind_grows (arguments_grows context.program true name ps) (λ args. ws.calls called.code called.receiver args)

  -- ---- methods

  pub call_method_grows : {x y : Means Value} (name : Name) {xs ys : List Reading} → Grows x y → AllGrow xs ys →
      Grows (call_method (earlier ws) context x name xs) (call_method (later ws) context y name ys)
  call_method_grows name p ps =
      bind_grows p (λ v. bind_grows (heap_grows (method_on context.class v name)) (call_with_grows name ps))

  pub call_static_grows : {c d : ClassChoice} (name : Name) {xs ys : List Reading} → ChoiceGrows c d → AllGrow xs ys →
      Grows (call_static (earlier ws) context c name xs) (call_static (later ws) context d name ys)
  call_static_grows {c} {d} name {xs} {ys} p ps = subst
      (λ b. Grows (call_static (earlier ws) context c name xs) (call_static (later ws) context (record d { forwards = b }) name ys))
      p.forwards (bind_grows (declared_grows {c = c} {d = d} p) (λ class. bind_grows (by_state_grows (λ st.
      heap_grows (method_by context.class (this_object st) class (called_class c.forwards class st) name))) (call_with_grows name ps)))

  -- ---- objects

  initials_grow : (cs : List Class) → Grows (initials_of (earlier ws) context cs) (initials_of (later ws) context cs)
  initials_grow [] = give_grows []
  initials_grow (c ∷ cs) = bind_grows (initials_grow cs) (λ before. bind_grows (ws.all_initials c.initial) (λ values.
      give_grows (fold (λ (ps : List (Name × Value)) p. with_named ps p.0 p.1) before values)))

  make_grows : (class : ℕ) → Grows (make_object (earlier ws) context class) (make_object (later ws) context class)
  make_grows class = bind_grows (by_state_grows (λ st. initials_grow (lineage st.core.heap class))) (λ values. by_state_grows (λ st.
      first_grows (change_heap_grows (object_in class values)) (give_grows (next_object st.core.heap))))

  construct_grows : (object : ℕ) {xs ys : List Reading} → AllGrow xs ys → (called : Option Called) →
      Grows (construct (earlier ws) context object xs called) (construct (later ws) context object ys called)
  construct_grows object ps None =
      bind_grows (arguments_grows context.program true (codes "__construct") ps) (λ args. give_grows (Obj object))
  construct_grows object ps (Some called) = bind_grows (call_with_grows (codes "__construct") ps called) (λ v. give_grows (Obj object))

  pub new_grows : {c d : ClassChoice} {xs ys : List Reading} → ChoiceGrows c d → AllGrow xs ys →
      Grows (new_object (earlier ws) context c xs) (new_object (later ws) context d ys)
  new_grows p ps = bind_grows (declared_grows p) (λ class. bind_grows (make_grows class) (λ object.
      bind_grows (heap_grows (constructor_for context.class object class)) (construct_grows object ps)))

  -- ---- constants and static properties

  pub class_constant_grows : {c d : ClassChoice} (name : Name) → ChoiceGrows c d →
      Grows (class_constant (earlier ws) context c name) (class_constant (later ws) context d name)
  class_constant_grows name p = bind_grows (declared_grows p) (λ class.
      bind_grows (heap_grows (constant_for class name)) (λ d. ws.constants d.member.code))

  initialised_grows : (location code : ℕ) →
      Grows (initialised (earlier ws) context location code) (initialised (later ws) context location code)
  initialised_grows location zero = give_grows location
  initialised_grows location (suc code) = bind_grows (ws.initial_values (suc code)) (λ v.
      first_grows (change_places_grows (write_at location v)) (give_grows location))

  initialise_grows : (d : Declared) (location : ℕ) →
      Grows (initialise (earlier ws) context d location) (initialise (later ws) context d location)
  initialise_grows d location =
      by_state_grows (λ st. initialised_grows location (initial_due location d.member.code st.core.places))

  pub static_location_grows : {c d : ClassChoice} (name : Name) → ChoiceGrows c d →
      Grows (static_location (earlier ws) context c name) (static_location (later ws) context d name)
  static_location_grows name p = bind_grows (declared_grows p) (λ class.
      bind_grows (heap_grows (static_property_for context.class class name)) (λ d.
      first_grows (change_places_grows (place_static d.class name))
      (bind_grows (look_grows (λ st. placed_static d.class name st.core.places)) (initialise_grows d))))
