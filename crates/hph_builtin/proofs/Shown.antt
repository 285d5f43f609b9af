-- What values in code are, kind by kind.
use Rattle.std.proofs.Common.{◌≡◌, ◌∙◌, suc, List, [], ◌∷◌, length, Ok, refl, ap}
use Rattle.hph_array.specs.declared.key.Key.{Key}
use Rattle.hph_array.specs.Array.{Array, array_map}
use Rattle.hph_php.specs.Values.{Value, paired, listed, array_of}
use Rattle.hph_php.specs.Builtins.{array_argument}
use Rattle.hph_value.specs.declared.value.Value as code
use Rattle.hph_value.specs.declared.value.Elements.{Elements}
use Rattle.hph_value.specs.Shown.{value_of}
use Rattle.hph_value.proofs.Shown as values

pub ruleset shown = (values.null_shown, values.bool_shown, values.int_shown, values.str_shown, values.obj_shown, values.arr_shown)

listed_paired : (pairs : List (Key × Value)) → listed (paired pairs) ≡ pairs
listed_paired [] = refl
listed_paired (p ∷ pairs) = ap (λ l. p ∷ l) (listed_paired pairs)

array_back : (a : Array Value) → array_of (paired a.pairs) a.next_key ≡ a
array_back a = ap (λ (l : List (Key × Value)). record { pairs = l; next_key = a.next_key }) (listed_paired a.pairs)

pub array_there : (elements : Elements code.Value) → array_argument (value_of (code.Arr elements)) ≡ Ok (array_map value_of elements.map)
array_there elements =
    ap array_argument (values.arr_shown elements) ∙ ap (λ (a : Array Value). Ok a) (array_back (array_map value_of elements.map))

count_pairs : (pairs : List (Key × code.Value)) → length (array_map value_of (record { pairs = pairs; next_key = 0 })).pairs ≡ length pairs
count_pairs [] = refl
count_pairs (p ∷ pairs) = ap suc (count_pairs pairs)

-- an array has as many pairs as its array in code
pub count_shown : (a : Array code.Value) → length (array_map value_of a).pairs ≡ length a.pairs
count_shown a = count_pairs a.pairs
