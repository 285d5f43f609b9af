-- The values on one side of the pairs of an array, and texts of values that are joined one by one.
use Rattle.std.specs.Prelude.{◌≡◌, ◌++◌, ℕ, zero, suc, List, [], ◌∷◌, map, Result, Ok, codes}
use Rattle.std.specs.List.{flat_map}
use Rattle.std.specs.Map.{keys_of, values_of}
use Rattle.std.proofs.Common.{refl}
use Rattle.hph_array.specs.declared.key.Key.{Key}
use Rattle.hph_array.specs.declared.key.Key.TheVariants as key
use Rattle.hph_php.specs.declared.fatal.Fatal.{Fatal}
use Rattle.hph_php.specs.Values.{Value, Null, Str}
use Rattle.hph_php.specs.Conversions.{map_ok, value_of_key}
use Rattle.hph_php.specs.Builtins.{texts_of}
use Rattle.hph_php.specs.StringFunctions.{implode}
use Rattle.hph_value.specs.declared.value.Value as code
use Rattle.hph_value.specs.Shown.{value_of}
use Rattle.hph_builtin_array.specs.declared.lists.Side.{Side}
use Rattle.hph_builtin_array.specs.declared.lists.Side.TheVariants.{Keys, Values}

-- the pairs of an array that pairs in code are
abbrev pub shown_pairs : List (Key × code.Value) → List (Key × Value)
shown_pairs pairs = map (λ pair. (pair.0, value_of pair.1)) pairs

abbrev pub side_of : Side → Key × Value → Value
side_of Keys pair = value_of_key pair.0
side_of Values pair = pair.1

abbrev pub values_on : Side → List (Key × Value) → List Value
values_on Keys pairs = map value_of_key (keys_of pairs)
values_on Values pairs = values_of pairs

-- the separator, but in front of the first value
abbrev pub lead : List ℕ → ℕ → List ℕ
lead separator zero = []
lead separator (suc index) = separator

-- the texts of values from an index on, joined behind what is joined already
abbrev pub joined_behind : List ℕ → List ℕ → ℕ → List Value → Result (List ℕ) Fatal
joined_behind separator text zero values = map_ok (λ texts. text ++ implode separator texts) (texts_of values)
joined_behind separator text (suc index) values = map_ok (λ texts. text ++ flat_map (λ more. separator ++ more) texts) (texts_of values)

-- ["k" => null]
sides : (values_on Keys ((key.Str (codes "k"), Null) ∷ []) ≡ Str (codes "k") ∷ []) × (values_on Values ((key.Str (codes "k"), Null) ∷ []) ≡ Null ∷ [])
sides = (refl, refl)

-- "a" and null, behind "x" at the index 2
behind_more : joined_behind (codes ", ") (codes "x") 2 (Str (codes "a") ∷ Null ∷ []) ≡ Ok (codes "x, a, ")
behind_more = refl
