-- Arrays that are open.
use Rattle.std.proofs.Common.{◌≡◌, List, Some, Ok, ap}
use Rattle.hph_array.specs.declared.key.Key.{Key}
use Rattle.hph_array.specs.Array.{Array, array_map}
use Rattle.hph_php.specs.Values.{Value, array_value}
use Rattle.hph_php.specs.Paths.{array_for_write}
use Rattle.hph_php.proofs.ValueLaws.{list_of_pairs}
use Rattle.hph_value.specs.declared.value.Value as code
use Rattle.hph_value.specs.Shown.{value_of}
use Rattle.hph_value.proofs.Shown as values

pub ruleset shown = (values.null_shown, values.bool_shown, values.int_shown, values.str_shown, values.obj_shown, values.arr_shown)

-- An array is written as it is.
pub array_there : (a : Array Value) → array_for_write (Some (array_value a)) ≡ Ok a
array_there a = ap (λ (ps : List (Key × Value)). Ok (record { pairs = ps; next_key = a.next_key })) (list_of_pairs a.pairs)

-- What is a value of code's array is written as its pairs.
pub elements_there : (v : Value) (m : Array code.Value) (n : Array code.Value) → v ≡ array_value (array_map value_of m) → n ≡ m
    → array_for_write (Some v) ≡ Ok (array_map value_of n)
elements_there v m n is same = rw (is, same) (array_there (array_map value_of m))
