-- Arrays and the operations on them. Source: PHP manual, 'Arrays' and 'array_pop'; that the next key is never
-- negative, and that there is none past the greatest int, is this project's own.
use Rattle.std.specs.Prelude.{◌≡◌, ◌+◌, ◌≤◌, ◌^◌, ◌==◌, ℕ, List, [], ◌∷◌, ◌++◌, Option, None, Some, max}
use Rattle.std.specs.Prelude.{pos, negsuc, if◌then◌else◌, length, map}
use Rattle.std.specs.Coded.{Coded, coded×, coded_list, coded_ℕ, code_by}
use Rattle.std.specs.List.{AllByRecursion, IsDistinct}
use Rattle.std.specs.Option.{option_map_or}
use Rattle.std.specs.Map.{keys_of, lookup, remove_entry, set_value}
use Rattle.std.proofs.Common.{refl}
use Rattle.hph_array.specs.declared.key.Key.{Key}
use Rattle.hph_array.specs.declared.key.Key.TheVariants.{Int, Str}
use Rattle.hph_array.specs.contracts.key.Key as contract
use Rattle.hph_array.specs.Key.{key_eq, number_after}

-- Pairs of a key and a value in their order, and the key that the next append takes.
pub record Array (V : Type 0) : Type 0 where
  pub pairs : List (Key × V)
  pub next_key : ℕ

-- An array is stored as its two parts.
abbrev pub array_code : {V : Type 0} → Coded V → Coded (Array V)
array_code {V} values =
    code_by (List (Key × V) × ℕ) (coded× (coded_list (coded× contract.the_row.coded values)) coded_ℕ)
    (λ a. (a.pairs, a.next_key)) (λ parts. record { pairs = parts.0; next_key = parts.1 }) (λ _. refl)

-- Each of the int keys is below the next key.
abbrev pub AreBelow : ℕ → List Key → Type 0
AreBelow next_key keys = AllByRecursion (λ key. number_after key ≤ next_key) keys

-- The keys are distinct, and the next key is above each int key and at most 2^63.
pub record IsArray {V : Type 0} (a : Array V) : Type 0 where
  pub distinct : IsDistinct key_eq (keys_of a.pairs)
  pub below : AreBelow a.next_key (keys_of a.pairs)
  pub within : a.next_key ≤ 2 ^ 63

-- Keys and values at the same places, and a next key, that make an array of their pairs.
pub record MakeArray {V : Type 0} (keys : List Key) (values : List V) (next_key : ℕ) : Type 0 where
  pub same_length : length values ≡ length keys
  pub below : AreBelow next_key keys
  pub within : next_key ≤ 2 ^ 63

-- The next key falls to a popped key that is one below it.
abbrev pub fallen : ℕ → Key → ℕ
fallen next_key (Int (pos n)) = if next_key == n + 1 then n else next_key
fallen next_key (Int (negsuc n)) = next_key
fallen next_key (Str bytes) = next_key

module _ {V : Type 0} where
  -- the value at a key
  abbrev pub get : Array V → Key → Option V
  get a key = lookup (key_eq key) a.pairs

  -- with this value at the key: in its place if the key is there, else as the last pair
  abbrev pub put : List (Key × V) → Key → V → List (Key × V)
  put [] key value = (key, value) ∷ []
  put (pair ∷ pairs) key value =
      if key_eq key pair.0 then (pair.0, value) ∷ pairs else pair ∷ put pairs key value

  -- `$a[key] = value`: the next key is then above an int key.
  abbrev pub set : Array V → Key → V → Array V
  set a key value = record { pairs = put a.pairs key value; next_key = max a.next_key (number_after key) }

  -- `$a[] = value`: the pair goes last, at the next key.
  abbrev pub append : Array V → V → Array V
  append a value = record { pairs = a.pairs ++ (Int (pos a.next_key), value) ∷ []; next_key = a.next_key + 1 }

  -- `unset($a[key])`: the next key stays.
  abbrev pub unset : Array V → Key → Array V
  unset a key = record { pairs = remove_entry (key_eq key) a.pairs; next_key = a.next_key }

  -- the array with another value at a key, or as it was if the key isn't there
  abbrev pub replace : Array V → Key → V → Array V
  replace a key value = record { pairs = set_value (key_eq key) a.pairs value; next_key = a.next_key }

  -- the last pair
  abbrev pub last : List (Key × V) → Option (Key × V)
  last [] = None
  last (pair ∷ []) = Some pair
  last (pair ∷ second ∷ pairs) = last (second ∷ pairs)

  -- all pairs but the last
  abbrev pub front : List (Key × V) → List (Key × V)
  front [] = []
  front (pair ∷ []) = []
  front (pair ∷ second ∷ pairs) = pair ∷ front (second ∷ pairs)

  -- `array_pop($a)`: without the last pair, to whose key the next key may fall
  abbrev pub pop : Array V → Array V
  pop a = record {
    pairs = front a.pairs;
    next_key = option_map_or (λ pair. fallen a.next_key pair.0) (last a.pairs) a.next_key;
  }

-- the array with a function applied to each value
abbrev pub array_map : {V W : Type 0} → (V → W) → Array V → Array W
array_map f a = record { pairs = map (λ pair. (pair.0, f pair.1)) a.pairs; next_key = a.next_key }
