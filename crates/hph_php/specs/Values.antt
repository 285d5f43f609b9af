-- Values of programs (PHP manual, Types), with whole numbers for all numbers. An array is a list of pairs of a key and a
-- value and a next key; since it holds values, its pairs have a type of their own here, with a list that they stand for.
use Rattle.std.specs.Prelude.{◌<◌, ◌^◌, ℕ, ℤ, Bool, List, [], ◌∷◌, IsTrue, All}
use Rattle.hph_num.specs.Range.{fits_i64}
use Rattle.hph_array.specs.declared.key.Key.{Key}
use Rattle.hph_array.specs.declared.key.Key.TheVariants as key
use Rattle.hph_array.specs.Array.{Array, IsArray}

mutual
  -- null, a bool, an int, a string of bytes, an array with its next key, or the number of an object
  pub data Value : Type 0 where
    Null : Value
    Boolean : (truth : Bool) → Value
    Int : (z : ℤ) → Value
    Str : (bytes : List ℕ) → Value
    Arr : (pairs : Pairs) → (next_key : ℕ) → Value
    Obj : (number : ℕ) → Value

  pub data Pairs : Type 0 where
    no_pair : Pairs
    pair : (key : Key) → (value : Value) → (rest : Pairs) → Pairs

-- the list of the pairs of an array, and back
abbrev pub listed : Pairs → List (Key × Value)
listed no_pair = []
listed (pair key value rest) = (key, value) ∷ listed rest

abbrev pub paired : List (Key × Value) → Pairs
paired [] = no_pair
paired (p ∷ ps) = pair p.0 p.1 (paired ps)

-- the array that pairs and a next key are, and the value that is an array
abbrev pub array_of : Pairs → ℕ → Array Value
array_of pairs next_key = record { pairs = listed pairs; next_key = next_key }

abbrev pub array_value : Array Value → Value
array_value a = Arr (paired a.pairs) a.next_key

-- `[]`
abbrev pub empty_array : Array Value
empty_array = record { pairs = []; next_key = 0 }

-- Ints have 64 bits, and strings are of bytes.
abbrev pub AreBytes : List ℕ → Type 0
AreBytes bytes = All (λ b. b < 2 ^ 8) bytes

abbrev pub IsKey : Key → Type 0
IsKey (key.Int z) = IsTrue (fits_i64 z)
IsKey (key.Str bytes) = AreBytes bytes

abbrev mutual
  -- The same of values. Arrays are arrays: their keys are distinct, and the next key is above each int key.
  pub IsValue : Value → Type 0
  IsValue Null = Unit {0}
  IsValue (Boolean truth) = Unit {0}
  IsValue (Int z) = IsTrue (fits_i64 z)
  IsValue (Str bytes) = AreBytes bytes
  IsValue (Arr pairs next_key) = IsArray (array_of pairs next_key) × ArePairs pairs
  IsValue (Obj number) = Unit {0}

  pub ArePairs : Pairs → Type 0
  ArePairs no_pair = Unit {0}
  ArePairs (pair key value rest) = IsKey key × (IsValue value × ArePairs rest)
