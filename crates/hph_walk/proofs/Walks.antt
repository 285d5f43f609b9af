-- Walks, step by step.
use Rattle.std.proofs.Common.{◌≡◌, ◌∙◌, ◌<◌, ℕ, suc, ◌+◌, add-one, get_or, length, List, [], ◌∷◌, drop, Option, None, Some, Ok, Err, refl, sym, ap}
use Rattle.std.proofs.Math.Seq.{drop-cons}
use Rattle.std.specs.Option.{option_map, option_map_or, unwrap_or}
use Rattle.hph_array.specs.declared.key.Key.{Key}
use Rattle.hph_array.specs.Array.{Array, get, array_map}
use Rattle.hph_array.proofs.ArrayMapLaws.{get-array_map}
use Rattle.hph_php.specs.declared.fatal.Fatal.{Fatal}
use Rattle.hph_php.specs.Values.{Value, Null, array_of, array_value, paired}
use Rattle.hph_php.specs.State.{Heap, empty_heap}
use Rattle.hph_php.specs.Conversions.{map_ok, to_key}
use Rattle.hph_php.specs.Paths.{read_key, try_path, try_key, ok_only, old_value}
use Rattle.hph_php.proofs.ValueLaws.{list_of_pairs}
use Rattle.hph_value.specs.declared.value.Value as code
use Rattle.hph_value.specs.Shown.{value_of}
use Rattle.hph_value.proofs.Shown as values
use Rattle.hph_walk.specs.declared.step.Step.{Step}
use Rattle.hph_walk.specs.declared.step.Step.TheVariants as steps
use Rattle.hph_walk.specs.Steps.{steps_of, try_by}

pub ruleset shown = (values.null_shown, values.bool_shown, values.int_shown, values.str_shown, values.obj_shown, values.arr_shown)

-- An array in code and the array that it is have values at the same keys.
pub got : (a : Array code.Value) (k : Key)
    → get (array_of (paired (array_map value_of a).pairs) a.next_key) k ≡ option_map value_of (get a k)
got a k = ap (λ (ps : List (Key × Value)). get (record { pairs = ps; next_key = a.next_key }) k) (list_of_pairs (array_map value_of a).pairs)
    ∙ get-array_map value_of a k

-- What is read of an array by a value that is a key.
pub element_read : (a : Array code.Value) (key : Value) (k : Key) → to_key key ≡ Ok k
    → read_key empty_heap None (array_value (array_map value_of a)) key ≡ Ok (unwrap_or (option_map value_of (get a k)) Null)
element_read a key k is_key =
    ap (map_ok (λ k. unwrap_or (get (array_of (paired (array_map value_of a).pairs) a.next_key) k) Null)) is_key
    ∙ ap (λ o. Ok (unwrap_or o Null)) (got a k)

-- What is set in an array by a value that is a key.
pub element_tried : (a : Array code.Value) (key : Value) (k : Key) → to_key key ≡ Ok k
    → try_key empty_heap None (array_value (array_map value_of a)) key ≡ option_map value_of (get a k)
element_tried a key k is_key =
    ap (λ r. option_map_or (get (array_of (paired (array_map value_of a).pairs) a.next_key)) (ok_only r) None) is_key
    ∙ got a k

-- Nothing is set in an array by a value that is no key.
pub none_tried : (a : Array code.Value) (key : Value) (kind : Fatal) → to_key key ≡ Err kind
    → try_key empty_heap None (array_value (array_map value_of a)) key ≡ None
none_tried a key kind no_key =
    ap (λ r. option_map_or (get (array_of (paired (array_map value_of a).pairs) a.next_key)) (ok_only r) None) no_key

module _ (heap : Heap) (within : Option ℕ) where
  -- Nothing is set behind null.
  pub null_tried : (rest : List Step) → try_path heap within Null (steps_of rest) ≡ None
  null_tried [] = refl
  null_tried (steps.Key key ∷ rest) = refl
  null_tried (steps.End ∷ rest) = refl

  -- What isn't set may be taken for null.
  chosen : (o : Option Value) (rest : List Step)
      → option_map_or (λ v. try_path heap within v (steps_of rest)) o None ≡ try_path heap within (old_value o) (steps_of rest)
  chosen None rest = sym (null_tried rest)
  chosen (Some v) rest = refl

  pub tried_behind : (v : Value) (step : Step) (rest : List Step)
      → try_path heap within v (steps_of (step ∷ rest)) ≡ try_path heap within (old_value (try_by v step)) (steps_of rest)
  tried_behind v (steps.Key key) rest = chosen (try_key heap within v (value_of key)) rest
  tried_behind v steps.End rest = sym (null_tried rest)

-- The steps from one on are it and those behind it.
pub next_step : (steps : List Step) (i : ℕ) (step : Step) → i < length steps → step ≡ get_or steps i step → drop i steps ≡ step ∷ drop (i + 1) steps
next_step steps i step within e = rw (add-one) (drop-cons steps i step within ∙ ap (λ s. s ∷ drop (suc i) steps) (sym e))
