-- Comparison of values (PHP manual, Comparison Operators, Comparison with Various Types). The fatal errors are this project's
-- own: for floats, for objects with anything but themselves, null and bools, and for the order of two arrays.
use Rattle.std.specs.Prelude.{◌≡◌, ◌==◌, ◌&&◌, ℕ, ℤ, pos, neg_ℤ, Bool, true, false, List, [], length, Option, None, Some, Result, Ok, Err}
use Rattle.std.specs.Prelude.{if◌then◌else◌, bytes_eq, codes}
use Rattle.std.specs.declared.cmp.Ordering.{Ordering}
use Rattle.std.specs.declared.cmp.Ordering.TheVariants.{Less, Equal, Greater}
use Rattle.std.specs.Ordering.{is_eq, ordering_reverse, nat_cmp, int_cmp, bool_cmp, int_eq}
use Rattle.std.specs.Cmp.Lexicographic.{slice_cmp}
use Rattle.std.specs.Bool.{beq}
use Rattle.std.specs.Fmt.{digits, signed_decimal}
use Rattle.std.proofs.Common.{refl}
use Rattle.hph_array.specs.declared.key.Key.TheVariants as key
use Rattle.hph_array.specs.Key.{key_eq}
use Rattle.hph_array.specs.Array.{Array, get}
use Rattle.hph_php.specs.declared.fatal.Fatal.{Fatal}
use Rattle.hph_php.specs.declared.fatal.Fatal.TheVariants.{Float, ObjectCompare, ArrayOrder}
use Rattle.hph_php.specs.Values.{Value, Null, Boolean, Int, Str, Arr, Obj, Pairs, no_pair, pair, listed, array_of}
use Rattle.hph_php.specs.NumericStrings.{Numeric, NoNumber, Whole, FloatLike, numeric_of}
use Rattle.hph_php.specs.Conversions.{map_ok, to_bool}

-- ---- loose order: `<`, `<=`, `>`, `>=` and `<=>`

-- the order of two strings, by their bytes
abbrev pub bytes_order : List ℕ → List ℕ → Ordering
bytes_order x y = slice_cmp nat_cmp x y

-- An int and a string compare as numbers, or else as strings.
abbrev pub int_with : ℤ → List ℕ → Numeric → Result Ordering Fatal
int_with x bytes (Whole y) = Ok (int_cmp x y)
int_with x bytes FloatLike = Err Float
int_with x bytes NoNumber = Ok (bytes_order (signed_decimal x) bytes)

-- Two strings that are numbers compare as numbers; others by their bytes.
abbrev pub strings_with : List ℕ → List ℕ → Numeric → Numeric → Result Ordering Fatal
strings_with x y (Whole a) (Whole b) = Ok (int_cmp a b)
strings_with x y (Whole a) FloatLike = Err Float
strings_with x y FloatLike (Whole b) = Err Float
strings_with x y FloatLike FloatLike = Err Float
strings_with x y _ _ = Ok (bytes_order x y)

-- The first clause that fits is the rule.
abbrev pub loose_order : Value → Value → Result Ordering Fatal
loose_order Null Null = Ok Equal
loose_order Null (Str y) = Ok (bytes_order [] y)
loose_order (Str x) Null = Ok (bytes_order x [])
loose_order (Boolean x) b = Ok (bool_cmp x (to_bool b))
loose_order a (Boolean y) = Ok (bool_cmp (to_bool a) y)
loose_order Null b = Ok (bool_cmp false (to_bool b))
loose_order a Null = Ok (bool_cmp (to_bool a) false)
loose_order (Int x) (Int y) = Ok (int_cmp x y)
loose_order (Int x) (Str y) = int_with x y (numeric_of y)
loose_order (Str x) (Int y) = map_ok ordering_reverse (int_with y x (numeric_of x))
loose_order (Str x) (Str y) = strings_with x y (numeric_of x) (numeric_of y)
loose_order (Obj x) (Obj y) = if x == y then Ok Equal else Err ObjectCompare
loose_order (Obj x) b = Err ObjectCompare
loose_order a (Obj y) = Err ObjectCompare
loose_order (Arr xs n) (Arr ys m) = Err ArrayOrder
loose_order (Arr xs n) b = Ok Greater
loose_order a (Arr ys m) = Ok Less

-- ---- `==`

-- equality by the loose order
abbrev pub by_order : Value → Value → Result Bool Fatal
by_order a b = map_ok is_eq (loose_order a b)

-- the second is asked only where the first holds
abbrev pub and_also : Result Bool Fatal → Result Bool Fatal → Result Bool Fatal
and_also (Ok true) second = second
and_also (Ok false) second = Ok false
and_also (Err fatal) second = Err fatal

-- an equal value is there
abbrev pub is_there : (Value → Result Bool Fatal) → Option Value → Result Bool Fatal
is_there equals None = Ok false
is_there equals (Some value) = equals value

-- Two arrays are equal where they have as many pairs, and each key of the left is in the right with an equal value.
abbrev pub array_with : Pairs → ℕ → (Array Value → Result Bool Fatal) → Value → Result Bool Fatal
array_with xs n each (Arr ys m) = if length (listed xs) == length (listed ys) then each (array_of ys m) else Ok false
array_with xs n each b = by_order (Arr xs n) b

abbrev mutual
  pub loosely_equal : Value → Value → Result Bool Fatal
  loosely_equal (Arr xs n) b = array_with xs n (each_in xs) b
  loosely_equal Null b = by_order Null b
  loosely_equal (Boolean x) b = by_order (Boolean x) b
  loosely_equal (Int x) b = by_order (Int x) b
  loosely_equal (Str x) b = by_order (Str x) b
  loosely_equal (Obj x) b = by_order (Obj x) b

  -- each pair, in order, is in the array on the right
  pub each_in : Pairs → Array Value → Result Bool Fatal
  each_in no_pair b = Ok true
  each_in (pair key value rest) b = and_also (is_there (loosely_equal value) (get b key)) (each_in rest b)

-- ---- `===`

abbrev mutual
  -- one kind and one value; arrays have the same pairs in the same order
  pub identical : Value → Value → Bool
  identical Null Null = true
  identical (Boolean x) (Boolean y) = beq x y
  identical (Int x) (Int y) = int_eq x y
  identical (Str x) (Str y) = bytes_eq x y
  identical (Arr xs n) (Arr ys m) = same_pairs xs ys
  identical (Obj x) (Obj y) = x == y
  identical _ _ = false

  pub same_pairs : Pairs → Pairs → Bool
  same_pairs no_pair no_pair = true
  same_pairs (pair key value rest) (pair other_key other others) =
      key_eq key other_key && (identical value other && same_pairs rest others)
  same_pairs _ _ = false

-- ---- examples

-- "abc" == 0, "10" == " 10", "10" == "1e1", 10 == "1e1"
no_number_with_zero : loosely_equal (Str (codes "abc")) (Int (pos 0)) ≡ Ok false
unfolding digits
no_number_with_zero = refl

numbers_in_strings : loosely_equal (Str (codes "10")) (Str (codes " 10")) ≡ Ok true
numbers_in_strings = refl

floats_in_strings : (loosely_equal (Str (codes "10")) (Str (codes "1e1")) ≡ Err Float)
    × (loose_order (Int (pos 10)) (Str (codes "1e1")) ≡ Err Float)
floats_in_strings = (refl, refl)

-- "abc" <=> "1e1", null <=> "a", null <=> -1, "a" <=> 5
orders : (loose_order (Str (codes "abc")) (Str (codes "1e1")) ≡ Ok Greater) × ((loose_order Null (Str (codes "a")) ≡ Ok Less)
    × ((loose_order Null (Int (neg_ℤ (pos 1))) ≡ Ok Less) × (loose_order (Str (codes "a")) (Int (pos 5)) ≡ Ok Greater)))
unfolding digits
orders = (refl, (refl, (refl, refl)))

-- [1, "a" => 2] and ["a" => "2", 0 => true], by `==` and by `===`
abbrev first : Value
first = Arr (pair (key.Int (pos 0)) (Int (pos 1)) (pair (key.Str (codes "a")) (Int (pos 2)) no_pair)) 1

abbrev second : Value
second = Arr (pair (key.Str (codes "a")) (Str (codes "2")) (pair (key.Int (pos 0)) (Boolean true) no_pair)) 1

arrays_in_any_order : (loosely_equal first second ≡ Ok true) × (identical first second ≡ false)
arrays_in_any_order = (refl, refl)

arrays_have_no_order : (loose_order first second ≡ Err ArrayOrder) × (loose_order first (Int (pos 9)) ≡ Ok Greater)
arrays_have_no_order = (refl, refl)

-- an object with itself, with another, with null and with 1
objects : (loosely_equal (Obj 3) (Obj 3) ≡ Ok true) × ((loosely_equal (Obj 3) (Obj 4) ≡ Err ObjectCompare)
    × ((loosely_equal (Obj 3) Null ≡ Ok false) × (loosely_equal (Obj 3) (Int (pos 1)) ≡ Err ObjectCompare)))
objects = (refl, (refl, (refl, refl)))
