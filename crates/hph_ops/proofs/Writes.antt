-- What an append leaves in a variable.
use Rattle.std.proofs.Common.{◌≡◌, ◌∙◌, ◌^◌, ◌==◌, ℕ, Bool, true, false, cond, [], ◌∷◌, Option, None, Some, Result, Ok, Err, refl, sym, ap}
use Rattle.hph_array.specs.Array.{Array}
use Rattle.hph_array.specs.Array as array
use Rattle.hph_php.specs.declared.fatal.Fatal.{Fatal}
use Rattle.hph_php.specs.declared.fatal.Fatal.TheVariants.{AppendFull}
use Rattle.hph_php.specs.Arrays.{append}
use Rattle.hph_php.specs.Conversions.{and_then, map_ok}
use Rattle.hph_php.specs.Paths.{array_for_write, at_end, around, write_path, written}
use Rattle.hph_php.specs.State.{Heap}
use Rattle.hph_php.specs.Values.{Value, array_value}
use Rattle.hph_php.proofs.ValueLaws.{list_of_pairs}
use Rattle.hph_value.specs.declared.value.Elements.{Elements}
use Rattle.hph_value.specs.declared.value.Stop.{Stop}
use Rattle.hph_value.specs.declared.value.Stop.TheVariants.{Fatal as Fatally, NoMemory}
use Rattle.hph_value.specs.declared.value.Value as code
use Rattle.hph_value.specs.Shown.{value_of}
use Rattle.hph_value.proofs.Shown.{arr_shown}
use Rattle.hph_ops.specs.Writes.{WritesBy, Writes, array_seen, with_last}

with_last_array : (a : Array Value) (v : Value) → with_last (array_value a) v ≡ map_ok array_value (append a v)
with_last_array a v = ap (λ pairs. map_ok array_value (append (record { pairs = pairs; next_key = a.next_key }) v)) (list_of_pairs a.pairs)

-- It is the array with the value last.
with_last_shown : (elements : Elements code.Value) (v : Value)
    → with_last (value_of (code.Arr elements)) v ≡ map_ok array_value (append (array_seen elements) v)
with_last_shown elements v = ap (λ x. with_last x v) (arr_shown elements) ∙ with_last_array (array_seen elements) v

-- A write to its array is one to the variable.
pub array_written : (result : Result (Unit {0}) Stop) (old new : Elements code.Value) (v : Value)
    → WritesBy array_seen result old new (append (array_seen old) v)
    → Writes result (code.Arr old) (code.Arr new) (with_last (value_of (code.Arr old)) v)
array_written (Ok done) old new v w = with_last_shown old v ∙ ap (map_ok array_value) w ∙ ap Ok (sym (arr_shown new))
array_written (Err (Fatally kind)) old new v w = (with_last_shown old v ∙ ap (map_ok array_value) w.0, ap code.Arr w.1)
array_written (Err NoMemory) old new v w = ap code.Arr w

module _ (heap : Heap) (within : Option ℕ) (value : Value) where
  -- of an array, full or not
  to_array : (a : Array Value) (full : Bool)
      → cond full (Err AppendFull) (map_ok (around (array.append a)) (write_path heap within [] value None)) ≡ map_ok (written heap within)
      (map_ok array_value (cond full (Err AppendFull) (Ok (array.append a value))))
  to_array a true = refl
  to_array a false = refl

  -- of what may have an array for the write
  to_any : (found : Result (Array Value) Fatal)
      → and_then found (λ a. cond (a.next_key == 2 ^ 63) (Err AppendFull)
      (map_ok (around (array.append a)) (write_path heap within [] value None))) ≡ map_ok (written heap within)
      (and_then found (λ a. map_ok array_value (append a value)))
  to_any (Ok a) = to_array a (a.next_key == 2 ^ 63)
  to_any (Err kind) = refl

  -- An append is a write along the path `[]`.
  pub along_path : (old : Value) → write_path heap within (at_end ∷ []) value (Some old) ≡ map_ok (written heap within) (with_last old value)
  along_path old = to_any (array_for_write (Some old))
