-- Reading, testing, writing and unsetting along a path of keys and properties (PHP manual, Arrays, Strings, Properties). What
-- a wrong step is fatal for is this project's own, and that writing into a string is.
use Rattle.std.specs.Prelude.{◌≡◌, ◌==◌, ◌+◌, ◌-◌, ◌^◌, ℕ, ℤ, pos, negsuc, true, false, nat_lt, List, [], ◌∷◌, length, Option, None, Some}
use Rattle.std.specs.Prelude.{Result, Ok, Err, if◌then◌else◌, slice_get, codes}
use Rattle.std.specs.Option.{option_map, option_map_or, unwrap_or}
use Rattle.std.proofs.Common.{refl}
use Rattle.hph_array.specs.declared.key.Key.TheVariants as key
use Rattle.hph_array.specs.Array as array
use Rattle.hph_php.specs.declared.fatal.Fatal.{Fatal}
use Rattle.hph_php.specs.declared.fatal.Fatal.TheVariants.{AppendFull, BadArgument, ObjectUse, StringOffset, ScalarWrite, UndefinedProperty, NotObject}
use Rattle.hph_php.specs.Values.{Value, Null, Boolean, Int, Str, Arr, Obj, array_of, array_value, empty_array}
use Rattle.hph_php.specs.Conversions.{and_then, map_ok, to_key}
use Rattle.hph_php.specs.Arrays.{Array, get, set, unset, list_array}
use Rattle.hph_php.specs.State.{Heap, Object, Name, class_of, property_at, write_property, empty_heap}
use Rattle.hph_php.specs.Members.{Declared, property_of, is_seen, seen}

-- a step that was evaluated
pub data PathStep : Type 0 where
  by_key : (key : Value) → PathStep
  at_end : PathStep
  by_property : (name : Name) → PathStep

-- ---- bytes of strings

-- a place that counts from the end if it is negative
abbrev pub place_in : ℕ → ℤ → Option ℕ
place_in len (pos n) = Some n
place_in len (negsuc n) = if nat_lt n len then Some (len - (n + 1)) else None

abbrev pub byte_at : List ℕ → ℤ → Option ℕ
byte_at bytes z = option_map_or (slice_get bytes) (place_in (length bytes) z) None

abbrev pub byte_value : Option ℕ → Value
byte_value None = Str []
byte_value (Some b) = Str (b ∷ [])

-- the key is an int, and out of range there is no byte
abbrev pub read_byte : List ℕ → Value → Result Value Fatal
read_byte bytes (Int z) = Ok (byte_value (byte_at bytes z))
read_byte bytes key = Err StringOffset

-- ---- properties

-- the declared property of an object's name
abbrev pub declared_property : Heap → ℕ → Name → Option Declared
declared_property heap object name = option_map_or (λ class. property_of heap class name) (class_of heap object) None

-- what is there if nothing is fatal
abbrev pub ok_only : {A : Type 0} → Result A Fatal → Option A
ok_only (Ok a) = Some a
ok_only (Err kind) = None

abbrev pub try_byte : List ℕ → Value → Option Value
try_byte bytes (Int z) = option_map (λ b. Str (b ∷ [])) (byte_at bytes z)
try_byte bytes key = None

-- null is not set
abbrev pub unless_null : Value → Option Value
unless_null Null = None
unless_null value = Some value

module _ (heap : Heap) (within : Option ℕ) where
  -- ---- reading

  -- an undeclared property is null
  abbrev pub read_property : ℕ → Name → Result Value Fatal
  read_property object name =
      option_map_or (λ d. map_ok (λ _. property_at heap.objects object name) (seen heap within d)) (declared_property heap object name) (Ok Null)

  -- an unset element is null, and so is each of null, a bool and an int
  abbrev pub read_key : Value → Value → Result Value Fatal
  read_key (Arr pairs next_key) key = map_ok (λ k. unwrap_or (get (array_of pairs next_key) k) Null) (to_key key)
  read_key (Str bytes) key = read_byte bytes key
  read_key (Obj object) key = Err ObjectUse
  read_key _ key = Ok Null

  -- `[]` reads as null
  abbrev pub read_step : Value → PathStep → Result Value Fatal
  read_step value (by_key key) = read_key value key
  read_step value at_end = Ok Null
  read_step (Obj object) (by_property name) = read_property object name
  read_step _ (by_property name) = Ok Null

  abbrev pub read_path : Value → List PathStep → Result Value Fatal
  read_path value [] = Ok value
  read_path value (s ∷ steps) = and_then (read_step value s) (λ v. read_path v steps)

  -- ---- testing, by isset, empty and `??`: no step is fatal

  abbrev pub try_key : Value → Value → Option Value
  try_key (Arr pairs next_key) key = option_map_or (get (array_of pairs next_key)) (ok_only (to_key key)) None
  try_key (Str bytes) key = try_byte bytes key
  try_key _ key = None

  abbrev pub try_property : ℕ → Name → Option Value
  try_property object name =
      option_map_or (λ d. if is_seen heap within d then Some (property_at heap.objects object name) else None)
      (declared_property heap object name) None

  abbrev pub try_step : Value → PathStep → Option Value
  try_step value (by_key key) = try_key value key
  try_step value at_end = None
  try_step (Obj object) (by_property name) = try_property object name
  try_step _ (by_property name) = None

  abbrev pub try_path : Value → List PathStep → Option Value
  try_path value [] = unless_null value
  try_path value (s ∷ steps) = option_map_or (λ v. try_path v steps) (try_step value s) None

-- ---- writing

-- What a place has after a write below it, and the objects. A write behind `->` leaves the place as it is.
pub record Written : Type 0 where
  pub place : Option Value
  pub objects : List Object

-- what a write below comes to, of what the place has
abbrev pub WriteBelow : Type 0
WriteBelow = Option Value → Result Written Fatal

-- the array in which an index is written: a new one for null, unset and false
abbrev pub array_for_write : Option Value → Result (Array Value) Fatal
array_for_write None = Ok empty_array
array_for_write (Some Null) = Ok empty_array
array_for_write (Some (Boolean false)) = Ok empty_array
array_for_write (Some (Boolean true)) = Err ScalarWrite
array_for_write (Some (Int z)) = Err ScalarWrite
array_for_write (Some (Str bytes)) = Err StringOffset
array_for_write (Some (Arr pairs next_key)) = Ok (array_of pairs next_key)
array_for_write (Some (Obj object)) = Err ObjectUse

-- with an element that was written below
abbrev pub around : (Value → Array Value) → Written → Written
around rebuilt w = record { place = option_map (λ v. array_value (rebuilt v)) w.place; objects = w.objects }

abbrev pub write_key : Value → WriteBelow → WriteBelow
write_key key below place =
    and_then (array_for_write place) (λ a. and_then (to_key key) (λ k. map_ok (around (set a k)) (below (get a k))))

abbrev pub write_end : WriteBelow → WriteBelow
write_end below place = and_then (array_for_write place) (λ a.
    if a.next_key == 2 ^ 63 then Err AppendFull else map_ok (around (array.append a)) (below None))

abbrev pub into_property : ℕ → Name → Written → Written
into_property object name w =
    record { place = None; objects = option_map_or (λ v. write_property object name v w.objects) w.place w.objects }

-- an array that is there is gone into
abbrev pub in_array : List Object → (Array Value → Result Written Fatal) → WriteBelow
in_array objects go None = Ok (record { place = None; objects = objects })
in_array objects go (Some Null) = Ok (record { place = None; objects = objects })
in_array objects go (Some (Boolean false)) = Ok (record { place = None; objects = objects })
in_array objects go (Some (Arr pairs next_key)) = go (array_of pairs next_key)
in_array objects go place = and_then (array_for_write place) go

-- Writes and unsets go by the heap as it was, and give the objects anew.
module _ (heap : Heap) (within : Option ℕ) where
  abbrev pub written : Value → Written
  written value = record { place = Some value; objects = heap.objects }

  -- a property that is written is declared and seen
  abbrev pub property_for_write : ℕ → Name → Result Declared Fatal
  property_for_write object name =
      option_map_or (seen heap within) (declared_property heap object name) (Err UndefinedProperty)

  abbrev pub write_property_of : ℕ → Name → WriteBelow → Result Written Fatal
  write_property_of object name below = and_then (property_for_write object name)
      (λ _. map_ok (into_property object name) (below (Some (property_at heap.objects object name))))

  abbrev pub write_step : PathStep → WriteBelow → WriteBelow
  write_step (by_key key) below place = write_key key below place
  write_step at_end below place = write_end below place
  write_step (by_property name) below (Some (Obj object)) = write_property_of object name below
  write_step (by_property name) below _ = Err NotObject

  -- what a place becomes in which a value is written behind steps
  abbrev pub write_path : List PathStep → Value → WriteBelow
  write_path [] value place = Ok (written value)
  write_path (s ∷ steps) value place = write_step s (write_path steps value) place

  -- ---- unsetting: where a step is missing nothing is done

  abbrev pub left_alone : Result Written Fatal
  left_alone = Ok (record { place = None; objects = heap.objects })

  abbrev pub unset_below : Value → WriteBelow → Array Value → Result Written Fatal
  unset_below key below a = and_then (to_key key) (λ k.
      option_map_or (λ v. map_ok (around (set a k)) (below (Some v))) (get a k) left_alone)

  abbrev pub unset_key : Value → Array Value → Result Written Fatal
  unset_key key a = map_ok (λ k. written (array_value (unset a k))) (to_key key)

  abbrev pub unset_in_property : ℕ → Name → WriteBelow → Result Written Fatal
  unset_in_property object name below = option_map_or
      (λ d. and_then (seen heap within d) (λ _. map_ok (into_property object name) (below (Some (property_at heap.objects object name)))))
      (declared_property heap object name) left_alone

  abbrev pub unset_step : PathStep → WriteBelow → WriteBelow
  unset_step (by_key key) below place = in_array heap.objects (unset_below key below) place
  unset_step (by_property name) below (Some (Obj object)) = unset_in_property object name below
  unset_step _ below place = left_alone

  abbrev pub unset_last : PathStep → WriteBelow
  unset_last (by_key key) place = in_array heap.objects (unset_key key) place
  unset_last _ place = left_alone

  abbrev pub unset_path : List PathStep → WriteBelow
  unset_path [] place = left_alone
  unset_path (s ∷ []) place = unset_last s place
  unset_path (s ∷ t ∷ steps) place = unset_step s (unset_path (t ∷ steps)) place

-- ---- rules of assignments at a place, which give a value beside what they wrote

abbrev pub Stored : Type 0
Stored = Value × Written

-- what array_push and array_pop change
abbrev pub held_array : Value → Result (Array Value) Fatal
held_array (Arr pairs next_key) = Ok (array_of pairs next_key)
held_array _ = Err BadArgument

abbrev pub old_value : Option Value → Value
old_value place = unwrap_or place Null

module _ (within : Option ℕ) where
  -- `x = y`
  abbrev pub assign_at : List PathStep → Value → Heap → Option Value → Result Stored Fatal
  assign_at steps value heap place = map_ok (λ w. (value, w)) (write_path heap within steps value place)

  -- `x op= y`
  abbrev pub operate_at : (Value → Value → Result Value Fatal) → List PathStep → Value → Heap → Option Value → Result Stored Fatal
  operate_at op steps value heap place = and_then (read_path heap within (old_value place) steps) (λ old.
      and_then (op old value) (λ new. map_ok (λ w. (new, w)) (write_path heap within steps new place)))

  -- `++` and `--`, which give the new value or the old one
  abbrev pub update_at : (Value → Result Value Fatal) → (Value → Value → Value) → List PathStep → Heap → Option Value → Result Stored Fatal
  update_at move which steps heap place = and_then (read_path heap within (old_value place) steps) (λ old.
      and_then (move old) (λ new. map_ok (λ w. (which old new, w)) (write_path heap within steps new place)))

  -- array_push and array_pop, which give a value beside the array
  abbrev pub change_array_at : (Array Value → Result (Array Value × Value) Fatal) → List PathStep → Heap → Option Value → Result Stored Fatal
  change_array_at go steps heap place = and_then (read_path heap within (old_value place) steps) (λ old.
      and_then (and_then (held_array old) go) (λ r. map_ok (λ w. (r.1, w)) (write_path heap within steps (array_value r.0) place)))

-- ---- examples

-- "abc"[-1], "abc"[5], "abc"["1"], null[[]]
reads : (read_path empty_heap None (Str (codes "abc")) (by_key (Int (negsuc 0)) ∷ []) ≡ Ok (Str (codes "c")))
    × ((read_path empty_heap None (Str (codes "abc")) (by_key (Int (pos 5)) ∷ []) ≡ Ok (Str []))
    × ((read_path empty_heap None (Str (codes "abc")) (by_key (Str (codes "1")) ∷ []) ≡ Err StringOffset)
    × (read_path empty_heap None Null (by_key (array_value empty_array) ∷ []) ≡ Ok Null)))
reads = (refl, (refl, (refl, refl)))

-- isset("abc"[5]), isset([null][0])
tests : (try_path empty_heap None (Str (codes "abc")) (by_key (Int (pos 5)) ∷ []) ≡ None)
    × (try_path empty_heap None (array_value (list_array (Null ∷ []))) (by_key (Int (pos 0)) ∷ []) ≡ None)
tests = (refl, refl)

-- $a[][2] = 7 of an unset $a; $i[0] = 7 of an int; $n->p = 7 of null
writes : (write_path empty_heap None (at_end ∷ by_key (Int (pos 2)) ∷ []) (Int (pos 7)) None
    ≡ Ok (written empty_heap None (array_value (list_array (array_value (set empty_array (key.Int (pos 2)) (Int (pos 7))) ∷ [])))))
    × ((write_path empty_heap None (by_key (Int (pos 0)) ∷ []) (Int (pos 7)) (Some (Int (pos 1))) ≡ Err ScalarWrite)
    × (write_path empty_heap None (by_property (codes "p") ∷ []) (Int (pos 7)) (Some Null) ≡ Err NotObject))
writes = (refl, (refl, refl))

-- unset($a[5][0]) of [1] does nothing, and unset($a[0][0]) of [1] is an int that is written
unsets : (unset_path empty_heap None (by_key (Int (pos 5)) ∷ by_key (Int (pos 0)) ∷ []) (Some (array_value (list_array (Int (pos 1) ∷ []))))
    ≡ left_alone empty_heap None)
    × (unset_path empty_heap None (by_key (Int (pos 0)) ∷ by_key (Int (pos 0)) ∷ []) (Some (array_value (list_array (Int (pos 1) ∷ []))))
    ≡ Err ScalarWrite)
unsets = (refl, refl)
