-- What the calls that unset answer.
use Rattle.std.specs.Prelude.{◌≡◌, ℕ, true, false, List, [], ◌∷◌, ◌++◌, Option, None, Some, Bool, Result, Ok, Err, IsSome}
use Rattle.std.specs.Option.{option_map_or}
use Rattle.hph_array.specs.declared.key.Key.{Key}
use Rattle.hph_array.specs.Array.{Array, get, set}
use Rattle.hph_php.specs.declared.fatal.Fatal.{Fatal}
use Rattle.hph_php.specs.declared.fatal.Fatal.TheVariants.{ObjectUse, StringOffset, ScalarWrite}
use Rattle.hph_php.specs.Values.{Value, Null, Boolean, Int, Str, Arr, Obj, array_of, array_value}
use Rattle.hph_php.specs.State.{Heap}
use Rattle.hph_php.specs.Conversions.{map_ok, to_key}
use Rattle.hph_php.specs.Paths.{PathStep, by_key, WriteBelow, Written, left_alone, unset_step, unset_last, unset_path}
use Rattle.hph_value.specs.declared.value.Stop.{Stop}
use Rattle.hph_value.specs.declared.value.Stop.TheVariants.{Fatal as Fatally, NoMemory}
use Rattle.hph_value.specs.declared.value.Value as code
use Rattle.hph_value.specs.Shown.{value_of, TellsBy}
use Rattle.hph_walk_write.specs.declared.level.Level.{Level}
use Rattle.hph_walk_write.specs.declared.unsetting.Progress.{Progress}
use Rattle.hph_walk_write.specs.declared.unsetting.Progress.TheVariants.{In, Left}
use Rattle.hph_walk_write.specs.Levels.{filled, closed, written_in}
use Rattle.hph_walk_write.specs.Writes.{place_of}

-- whether a value has pairs to unset one of; null and false have none
abbrev pub has_pairs : Value → Result Bool Fatal
has_pairs Null = Ok false
has_pairs (Boolean false) = Ok false
has_pairs (Boolean true) = Err ScalarWrite
has_pairs (Int z) = Err ScalarWrite
has_pairs (Str bytes) = Err StringOffset
has_pairs (Arr pairs next_key) = Ok true
has_pairs (Obj number) = Err ObjectUse

abbrev pub element_of : Value → Key → Option Value
element_of (Arr pairs next_key) key = get (array_of pairs next_key) key
element_of _ key = None

-- A step goes by a value that is this key to an element that is there.
pub record IsThere (value : Value) (step : PathStep) (key : Key) : Type 0 where
  pub by : Value
  pub is_step : step ≡ by_key by
  pub is_key : to_key by ≡ Ok key
  pub there : IsSome (element_of value key)

-- Where a step that has others behind it goes to no element nothing is done.
abbrev pub Looks : Result (Option Key) Stop → Value → PathStep → Type 0
Looks (Ok (Some key)) value step = IsThere value step key
Looks (Ok None) value step = (heap : Heap) (within : Option ℕ) (below : WriteBelow)
    → unset_step heap within step below (Some value) ≡ left_alone heap within
Looks (Err (Fatally kind)) value step = (heap : Heap) (within : Option ℕ) (below : WriteBelow)
    → unset_step heap within step below (Some value) ≡ Err kind
Looks (Err NoMemory) value step = Unit {0}

-- An array is open at an element that is there.
pub record IsOpenAt (value : Value) (key : Key) (level : Level) (inner : Value) : Type 0 where
  pub array : Array Value
  pub is_array : value ≡ array_value array
  pub there : get array key ≡ Some inner
  pub fills : (v : Value) → filled level v ≡ array_value (set array key v)
  pub keeps : filled level inner ≡ value

-- An unset goes from a value into an array, which is open at an element that is there.
pub record IsIn (heap : Heap) (within : Option ℕ) (value : Value) (step : PathStep) (level : Level) (inner : Value) : Type 0 where
  pub unsets : (below : WriteBelow)
      → unset_step heap within step below (Some value) ≡ map_ok (written_in (filled level)) (below (Some inner))
  pub keeps : filled level inner ≡ value

-- An unset leaves a value as it is.
pub record IsLeft (heap : Heap) (within : Option ℕ) (value : Value) (step : PathStep) (left : Value) : Type 0 where
  pub unsets : (below : WriteBelow) → unset_step heap within step below (Some value) ≡ left_alone heap within
  pub same : left ≡ value

-- So far an unset has gone into arrays that are open, with a last step and some before it to go from the innermost on.
pub record IsUnsetting (heap : Heap) (within : Option ℕ) (value : Value) (front : List PathStep) (last : PathStep) (levels : List Level) (inner : Value) (rest : List PathStep) : Type 0 where
  pub unsets : unset_path heap within (front ++ last ∷ []) (Some value) ≡ map_ok (written_in (closed levels)) (unset_path heap within (rest ++ last ∷ []) (Some inner))
  pub keeps : closed levels inner ≡ value

abbrev pub Enters : Result Progress Stop → Value → PathStep → Type 0
Enters (Ok (In level inner)) value step = (heap : Heap) (within : Option ℕ) → IsIn heap within value step level (value_of inner)
Enters (Ok (Left left)) value step = (heap : Heap) (within : Option ℕ) → IsLeft heap within value step (value_of left)
Enters (Err (Fatally kind)) value step = (heap : Heap) (within : Option ℕ) (below : WriteBelow)
    → unset_step heap within step below (Some value) ≡ Err kind
Enters (Err NoMemory) value step = Unit {0}

-- what a place has after a write that leaves it, or changes it
abbrev pub left_at : Option Value → Written → Written
left_at place w = record { place = option_map_or Some w.place place; objects = w.objects }

-- a place after an unset, which changes no object
abbrev pub place_left : Heap → Option Value → Written
place_left heap place = record { place = place; objects = heap.objects }

-- An unset by one step, by some, and by any number of them.
abbrev pub Ends : Result code.Value Stop → Value → PathStep → Type 0
Ends answer value step = (heap : Heap) (within : Option ℕ)
    → TellsBy (λ left. place_left heap (Some (value_of left))) answer (map_ok (left_at (Some value)) (unset_last heap within step (Some value)))

abbrev pub UnsetsBehind : Result code.Value Stop → Value → List PathStep → PathStep → Type 0
UnsetsBehind answer value front last = (heap : Heap) (within : Option ℕ)
    → TellsBy (λ left. place_left heap (Some (value_of left))) answer
    (map_ok (left_at (Some value)) (unset_path heap within (front ++ last ∷ []) (Some value)))

abbrev pub Unsets : Result (Option code.Value) Stop → Option Value → List PathStep → Type 0
Unsets answer place steps = (heap : Heap) (within : Option ℕ)
    → TellsBy (λ left. place_left heap (place_of left)) answer (map_ok (left_at place) (unset_path heap within steps place))
