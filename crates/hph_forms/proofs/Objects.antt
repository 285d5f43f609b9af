-- Writes along paths keep the class of each object, so that a state stays sound.
use Rattle.std.proofs.Common.{◌≡◌, ℕ, zero, suc, List, [], ◌∷◌, map, refl, sym, ap, ◌∙◌, subst, Option, Some, None}
use Rattle.std.specs.Prelude.{Bool, true, false, ◌==◌, ◌^◌, Result, Ok, Err, All, slice_get, slice_set, is_some, if◌then◌else◌}
use Rattle.std.specs.List.{AllByRecursion}
use Rattle.std.specs.Option.{option_map, option_map_or}
use Rattle.std.proofs.lemmas.List.Elements.{All-from_recursion, recursion_from_All}
use Rattle.hph_php.specs.declared.fatal.Fatal.{Fatal}
use Rattle.hph_php.specs.declared.fatal.Fatal.TheVariants.{AppendFull}
use Rattle.hph_php.specs.Values.{Value, Null, Boolean, Int, Str, Arr, Obj, array_value}
use Rattle.hph_php.specs.Conversions.{and_then, map_ok}
use Rattle.hph_php.specs.Arrays.{Array}
use Rattle.hph_php.specs.State.{Name, Object, Heap, Class, class_of, class_numbered, with_objects, write_property, object_with, property_at}
use Rattle.hph_php.specs.State as state
use Rattle.hph_php.specs.Declarations.{Codes, Code, a_body, a_value, initial_values, code_numbered}
use Rattle.hph_php.specs.Invariants.{IsClassOf, IsDeclared, FitsCode}
use Rattle.hph_php.specs.Classes.{is_instance}
use Rattle.hph_php.specs.Members.{is_kind_of}
use Rattle.hph_php.specs.Paths.{PathStep, by_key, at_end, by_property, Written, WriteBelow, Stored, read_path, write_path, write_step, write_key, write_end, write_property_of, array_for_write, property_for_write, declared_property, old_value, assign_at, operate_at, update_at, change_array_at, held_array, into_property}
use Rattle.hph_seqv.specs.Simulates.{IsSound}

abbrev pub classes_of : List Object → List ℕ
classes_of objects = map (λ (o : Object). o.class) objects

-- ---- what keeps classes

class_set : (objects : List Object) (i : ℕ) (o p : Object) → slice_get objects i ≡ Some o → p.class ≡ o.class →
    classes_of (slice_set objects i p) ≡ classes_of objects
class_set [] i o p e same = refl
class_set (x ∷ xs) zero o p e same = ap (λ c. c ∷ classes_of xs) (same ∙ ap (λ (o : Option Object). option_map_or (λ (o : Object). o.class) o 0) (sym e))
class_set (x ∷ xs) (suc i) o p e same = ap (λ cs. x.class ∷ cs) (class_set xs i o p e same)

pub property_keeps : (object : ℕ) (name : Name) (v : Value) (objects : List Object) → classes_of (write_property object name v objects) ≡ classes_of objects
property_keeps object name v objects = by (slice_get objects object) refl
  where
    by : (o : Option Object) → slice_get objects object ≡ o →
        classes_of (option_map_or (λ o. slice_set objects object (object_with name v o)) o objects) ≡ classes_of objects
    by None e = refl
    by (Some o) e = class_set objects object o (object_with name v o) e refl

-- what is written keeps classes, if anything is
abbrev pub WriteKeeps : List Object → Result Written Fatal → Type 0
WriteKeeps objects (Ok w) = classes_of w.objects ≡ classes_of objects
WriteKeeps objects (Err kind) = Unit {0}

abbrev pub StoreKeeps : List Object → Result Stored Fatal → Type 0
StoreKeeps objects (Ok r) = classes_of r.1.objects ≡ classes_of objects
StoreKeeps objects (Err kind) = Unit {0}

module _ (objects : List Object) where
  then_keeps : {A : Type 0} (r : Result A Fatal) (go : A → Result Written Fatal) → ((a : A) → WriteKeeps objects (go a)) → WriteKeeps objects (and_then r go)
  then_keeps (Ok a) go p = p a
  then_keeps (Err kind) go p = tt

  mapped_keeps : (r : Result Written Fatal) (go : Written → Written) → ((w : Written) → classes_of w.objects ≡ classes_of objects → classes_of (go w).objects ≡ classes_of objects) →
      WriteKeeps objects r → WriteKeeps objects (map_ok go r)
  mapped_keeps (Ok w) go p q = p w q
  mapped_keeps (Err kind) go p q = tt

  stored_keeps : {A : Type 0} (r : Result A Fatal) (go : A → Result Stored Fatal) → ((a : A) → StoreKeeps objects (go a)) → StoreKeeps objects (and_then r go)
  stored_keeps (Ok a) go p = p a
  stored_keeps (Err kind) go p = tt

  either_keeps : (t : Bool) (kind : Fatal) (r : Result Written Fatal) → WriteKeeps objects r → WriteKeeps objects (if t then Err kind else r)
  either_keeps true kind r q = tt
  either_keeps false kind r q = q

  -- a write behind `->`
  into_keeps : (object : ℕ) (name : Name) (w : Written) → classes_of w.objects ≡ classes_of objects → classes_of (into_property object name w).objects ≡ classes_of objects
  into_keeps object name w q = by w.place
    where
      by : (place : Option Value) → classes_of (option_map_or (λ v. write_property object name v w.objects) place w.objects) ≡ classes_of objects
      by None = q
      by (Some v) = property_keeps object name v w.objects ∙ q

  valued_keeps : (r : Result Written Fatal) (v : Value) → WriteKeeps objects r → StoreKeeps objects (map_ok (λ w. (v, w)) r)
  valued_keeps (Ok w) v q = q
  valued_keeps (Err kind) v q = tt

module _ (heap : Heap) (within : Option ℕ) where
  KeepsBelow : WriteBelow → Type 0
  KeepsBelow below = (place : Option Value) → WriteKeeps heap.objects (below place)

  step_keeps : (x : PathStep) (below : WriteBelow) → KeepsBelow below → KeepsBelow (write_step heap within x below)
  unfolding KeepsBelow
  step_keeps (by_key key) below p place = then_keeps heap.objects (array_for_write place) _ (λ a. then_keeps heap.objects _ _ (λ k.
      mapped_keeps heap.objects (below _) _ (λ w q. q) (p _)))
  step_keeps at_end below p place = then_keeps heap.objects (array_for_write place) _ (λ a. either_keeps heap.objects (a.next_key == 2 ^ 63) AppendFull _
      (mapped_keeps heap.objects (below None) _ (λ w q. q) (p None)))
  step_keeps (by_property name) below p (Some (Obj object)) = then_keeps heap.objects (property_for_write heap within object name) _ (λ d.
      mapped_keeps heap.objects (below (Some (property_at heap.objects object name))) (into_property object name) (λ w q. into_keeps heap.objects object name w q)
      (p (Some (property_at heap.objects object name))))
  step_keeps (by_property name) below p _ = tt

  pub path_keeps : (steps : List PathStep) (v : Value) (place : Option Value) → WriteKeeps heap.objects (write_path heap within steps v place)
  unfolding KeepsBelow
  path_keeps [] v place = refl
  path_keeps (x ∷ steps) v place = step_keeps x (write_path heap within steps v) (λ place. path_keeps steps v place) place

  -- ---- rules of assignments

  pub assign_keeps : (steps : List PathStep) (v : Value) (place : Option Value) → StoreKeeps heap.objects (assign_at within steps v heap place)
  assign_keeps steps v place = valued_keeps heap.objects (write_path heap within steps v place) v (path_keeps steps v place)

  pub operate_keeps : (op : Value → Value → Result Value Fatal) (steps : List PathStep) (v : Value) (place : Option Value) →
      StoreKeeps heap.objects (operate_at within op steps v heap place)
  operate_keeps op steps v place = stored_keeps heap.objects (read_path heap within (old_value place) steps) _ (λ old.
      stored_keeps heap.objects (op old v) _ (λ new. valued_keeps heap.objects (write_path heap within steps new place) new (path_keeps steps new place)))

  pub update_keeps : (move : Value → Result Value Fatal) (which : Value → Value → Value) (steps : List PathStep) (place : Option Value) →
      StoreKeeps heap.objects (update_at within move which steps heap place)
  update_keeps move which steps place = stored_keeps heap.objects (read_path heap within (old_value place) steps) _ (λ old.
      stored_keeps heap.objects (move old) _ (λ new. valued_keeps heap.objects (write_path heap within steps new place) (which old new) (path_keeps steps new place)))

  pub change_keeps : (go : Array Value → Result (Array Value × Value) Fatal) (steps : List PathStep) (place : Option Value) →
      StoreKeeps heap.objects (change_array_at within go steps heap place)
  change_keeps go steps place = stored_keeps heap.objects (read_path heap within (old_value place) steps) _ (λ old.
      stored_keeps heap.objects (and_then (held_array old) go) _ (λ r.
      valued_keeps heap.objects (write_path heap within steps (array_value r.0) place) r.1 (path_keeps steps (array_value r.0) place)))

-- ---- sound states

-- the class of an object goes by the classes of all
class_at : (objects : List Object) (i : ℕ) → option_map (λ (o : Object). o.class) (slice_get objects i) ≡ slice_get (classes_of objects) i
class_at [] i = refl
class_at (o ∷ os) zero = refl
class_at (o ∷ os) (suc i) = class_at os i

-- what holds of the classes of objects holds of those of others with the same classes
all_same : (P : ℕ → Type 0) (xs ys : List Object) → classes_of ys ≡ classes_of xs → AllByRecursion (λ (o : Object). P o.class) xs → AllByRecursion (λ (o : Object). P o.class) ys
all_same P xs ys e all = from ys (subst (AllByRecursion P) (sym e) (to xs all))
  where
    to : (xs : List Object) → AllByRecursion (λ (o : Object). P o.class) xs → AllByRecursion P (classes_of xs)
    to [] h = tt
    to (x ∷ xs) h = (h.0, to xs h.1)

    from : (ys : List Object) → AllByRecursion P (classes_of ys) → AllByRecursion (λ (o : Object). P o.class) ys
    from [] h = tt
    from (y ∷ ys) h = (h.0, from ys h.1)

module _ (program : Codes) (heap : Heap) (objects : List Object) (same : classes_of objects ≡ classes_of heap.objects) where
  class_same : (i : ℕ) → class_of heap i ≡ class_of (with_objects objects heap) i
  class_same i = class_at heap.objects i ∙ ap (λ cs. slice_get cs i) (sym same) ∙ sym (class_at objects i)

  instance_same : (object class : ℕ) → is_instance heap (Obj object) (Some class) ≡ is_instance (with_objects objects heap) (Obj object) (Some class)
  instance_same object class = ap (λ o. option_map_or (λ c. is_kind_of heap c class) o false) (class_same object)

  fits_same : (f : state.Frame) (code : Option Code) → FitsCode heap f code → FitsCode (with_objects objects heap) f code
  fits_same f (Some (a_body g (Some class) false)) fits =
      (fits.0, fits.1, sym (instance_same fits.0 class) ∙ fits.2, fits.3 ∙ class_same fits.0)
  fits_same f (Some (a_body g (Some class) true)) fits = fits
  fits_same f (Some (a_body g None is_static)) fits = fits
  fits_same f (Some (a_value x class)) fits = fits
  fits_same f (Some (initial_values properties class)) fits = fits
  fits_same f None fits = fits

  class_kept : (c : Class) → IsClassOf program heap c → IsClassOf program (with_objects objects heap) c
  class_kept c is = record { placed = is.placed; numbered = is.numbered; members = is.members; parent = is.parent }

  all_by : {A : Type 0} (P Q : A → Type 0) → ((a : A) → P a → Q a) → (xs : List A) → All P xs → All Q xs
  all_by {A = A} P Q go xs all = All-from_recursion Q xs (each xs (recursion_from_All P xs all))
    where
      each : (xs : List A) → AllByRecursion P xs → AllByRecursion Q xs
      each [] h = tt
      each (x ∷ xs) h = (go x h.0, each xs h.1)

  -- with other objects of the same classes a state is as sound
  pub sound_with : (frames : List state.Frame) → IsSound program heap frames → IsSound program (with_objects objects heap) frames
  sound_with frames sound = record {
    declared = record {
      functions = sound.declared.functions;
      classes = all_by (IsClassOf program heap) (IsClassOf program (with_objects objects heap)) class_kept heap.classes sound.declared.classes;
      objects = All-from_recursion (λ (o : Object). is_some (class_numbered o.class heap) ≡ true) objects
          (all_same (λ c. is_some (class_numbered c heap) ≡ true) heap.objects objects same
          (recursion_from_All (λ (o : Object). is_some (class_numbered o.class heap) ≡ true) heap.objects sound.declared.objects));
    };
    fit = all_by (λ (f : state.Frame). FitsCode heap f (code_numbered program f.code)) (λ (f : state.Frame). FitsCode (with_objects objects heap) f (code_numbered program f.code))
        (λ f. fits_same f (code_numbered program f.code)) frames sound.fit;
  }
