-- Operations on arrays (PHP manual, Arrays, Array Operators, array_push and array_pop). `get`, `set`, `unset` and `pop` are those
-- of lists of pairs with a next key; that there is no key behind the greatest int is a fatal error of this project's own.
use Rattle.std.specs.Prelude.{◌≡◌, ◌^◌, ◌==◌, List, [], ◌∷◌, Result, Ok, Err, if◌then◌else◌, fold, is_some, neg_ℤ, pos}
use Rattle.std.specs.Option.{option_map_or}
use Rattle.std.proofs.Common.{refl}
use Rattle.hph_array.specs.declared.key.Key.{Key}
use Rattle.hph_array.specs.declared.key.Key.TheVariants as key
pub use Rattle.hph_array.specs.Array.{Array, get, set, unset, last, pop}
use Rattle.hph_array.specs.Array as array
use Rattle.hph_php.specs.declared.fatal.Fatal.{Fatal}
use Rattle.hph_php.specs.declared.fatal.Fatal.TheVariants.{AppendFull}
use Rattle.hph_php.specs.Values.{Value, Null, Int, empty_array}
use Rattle.hph_php.specs.Conversions.{and_then}

module _ {V : Type 0} where
  -- `$a[] = value`
  abbrev pub append : Array V → V → Result (Array V) Fatal
  append a value = if a.next_key == 2 ^ 63 then Err AppendFull else Ok (array.append a value)

  -- `array_push($a, ..)`: the values go last, one after the other
  abbrev pub push : Array V → List V → Result (Array V) Fatal
  push a [] = Ok a
  push a (value ∷ values) = and_then (append a value) (λ b. push b values)

  -- with a pair, unless its key is there
  abbrev pub with_new : Array V → Key × V → Array V
  with_new a pair = if is_some (get a pair.0) then a else set a pair.0 pair.1

  -- `$a + $b`: the left array with the pairs of the right one whose keys it hasn't
  abbrev pub union : Array V → Array V → Array V
  union a b = fold with_new a b.pairs

-- `[v, w, ..]`
abbrev pub list_array : List Value → Array Value
list_array values = fold array.append empty_array values

-- what `array_pop($a)` gives: the last value, or null where there is none
abbrev pub popped : Array Value → Value
popped a = option_map_or (λ pair. pair.1) (last a.pairs) Null

-- ---- examples

-- $a = [5 => 1]; unset($a[5]); $a[] = 2;
next_key_after_unset : append (unset (set empty_array (key.Int (pos 5)) (Int (pos 1))) (key.Int (pos 5))) (Int (pos 2))
    ≡ Ok (record { pairs = (key.Int (pos 6), Int (pos 2)) ∷ []; next_key = 7 })
next_key_after_unset = refl

-- $b = [9223372036854775807 => 1]; $b[] = 2;
greatest_key : append (set empty_array (key.Int (pos 9223372036854775807)) (Int (pos 1))) (Int (pos 2)) ≡ Err AppendFull
greatest_key = refl

-- $a = [-5 => 1]; $a[] = 2; gives the key 0
behind_a_negative_key : append (set empty_array (key.Int (neg_ℤ (pos 5))) Null) (Int (pos 2))
    ≡ Ok (record { pairs = (key.Int (neg_ℤ (pos 5)), Null) ∷ (key.Int (pos 0), Int (pos 2)) ∷ []; next_key = 1 })
behind_a_negative_key = refl

-- array_pop of [1, 2], and then a push
push_after_pop : push (pop (list_array (Int (pos 1) ∷ Int (pos 2) ∷ []))) (Null ∷ []) ≡ Ok (list_array (Int (pos 1) ∷ Null ∷ []))
push_after_pop = refl

pop_of_none : popped empty_array ≡ Null
pop_of_none = refl

-- [1] + [2, 3]
union_of_lists : union (list_array (Int (pos 1) ∷ [])) (list_array (Int (pos 2) ∷ Int (pos 3) ∷ []))
    ≡ list_array (Int (pos 1) ∷ Int (pos 3) ∷ [])
union_of_lists = refl
