-- Conversions of values (PHP manual, Type Juggling, and the conversions of each type). Where PHP has a float or goes on
-- with a warning there is a kind of fatal error, this project's own.
use Rattle.std.specs.Prelude.{◌≡◌, ℤ, pos, neg_ℤ, Bool, true, false, not, ◌||◌, List, [], if◌then◌else◌, bytes_eq, codes}
use Rattle.std.specs.Ordering.{int_eq}
use Rattle.std.specs.Fmt.{digits, signed_decimal}
use Rattle.std.specs.Prelude.{Result, Ok, Err}
use Rattle.std.proofs.Common.{ℕ, refl}
use Rattle.hph_num.specs.declared.fault.NumFault.{NumFault}
use Rattle.hph_num.specs.declared.fault.NumFault.TheVariants as n
use Rattle.hph_array.specs.declared.key.Key.{Key}
use Rattle.hph_array.specs.declared.key.Key.TheVariants as key
use Rattle.hph_array.specs.Array as array
use Rattle.hph_php.specs.declared.fatal.Fatal.{Fatal}
use Rattle.hph_php.specs.declared.fatal.Fatal.TheVariants.{Overflow, Float, DivZero, NegativeShift, BadOperand, ObjectUse, IllegalOffset}
use Rattle.hph_php.specs.Values.{Value, Null, Boolean, Int, Str, Arr, Obj, Pairs, no_pair, pair, array_value, empty_array}
use Rattle.hph_php.specs.NumericStrings.{Numeric, NoNumber, Whole, FloatLike, leading_number, numeric_of}

-- goes on with a value; a fatal error ends it
abbrev pub and_then : {A B : Type 0} → Result A Fatal → (A → Result B Fatal) → Result B Fatal
and_then (Ok a) go = go a
and_then (Err fatal) go = Err fatal

abbrev pub map_ok : {A B : Type 0} → (A → B) → Result A Fatal → Result B Fatal
map_ok f (Ok a) = Ok (f a)
map_ok f (Err fatal) = Err fatal

-- the fatal error that a fault of whole numbers is
abbrev pub fatal_of : NumFault → Fatal
fatal_of n.Overflow = Overflow
fatal_of n.DivZero = DivZero
fatal_of n.NegativeShift = NegativeShift
fatal_of n.NotWhole = Float

abbrev pub settled : {A : Type 0} → Result A NumFault → Result A Fatal
settled (Ok a) = Ok a
settled (Err fault) = Err (fatal_of fault)

-- ---- to a bool

abbrev pub is_empty : Pairs → Bool
is_empty no_pair = true
is_empty (pair key value rest) = false

-- false are null, false, 0, the strings `` and `0`, and an array without pairs
abbrev pub to_bool : Value → Bool
to_bool Null = false
to_bool (Boolean truth) = truth
to_bool (Int z) = not (int_eq z (pos 0))
to_bool (Str bytes) = not (bytes_eq bytes [] || bytes_eq bytes (codes "0"))
to_bool (Arr pairs next_key) = not (is_empty pairs)
to_bool (Obj number) = true

abbrev pub int_of_bool : Bool → ℤ
int_of_bool truth = if truth then pos 1 else pos 0

-- ---- to an int

-- A string is the number that stands first in it, or 0 where there is none.
abbrev pub int_of_leading : Numeric → Result ℤ Fatal
int_of_leading NoNumber = Ok (pos 0)
int_of_leading (Whole z) = Ok z
int_of_leading FloatLike = Err Float

abbrev pub to_int : Value → Result ℤ Fatal
to_int Null = Ok (pos 0)
to_int (Boolean truth) = Ok (int_of_bool truth)
to_int (Int z) = Ok z
to_int (Str bytes) = int_of_leading (leading_number bytes)
to_int (Arr pairs next_key) = Ok (int_of_bool (not (is_empty pairs)))
to_int (Obj number) = Err ObjectUse

-- ---- to a string

abbrev pub to_text : Value → Result (List ℕ) Fatal
to_text Null = Ok []
to_text (Boolean truth) = Ok (if truth then codes "1" else [])
to_text (Int z) = Ok (signed_decimal z)
to_text (Str bytes) = Ok bytes
to_text (Arr pairs next_key) = Ok (codes "Array")
to_text (Obj number) = Err ObjectUse

-- ---- to an array

-- null is `[]`, and any other value that is no array is `[value]`
abbrev pub to_array : Value → Result Value Fatal
to_array Null = Ok (array_value empty_array)
to_array (Arr pairs next_key) = Ok (Arr pairs next_key)
to_array (Obj number) = Err ObjectUse
to_array value = Ok (array_value (array.append empty_array value))

-- ---- to a number, for arithmetic

-- Only a string that is a number as a whole is one.
abbrev pub number_of_numeric : Numeric → Result ℤ Fatal
number_of_numeric NoNumber = Err BadOperand
number_of_numeric (Whole z) = Ok z
number_of_numeric FloatLike = Err Float

abbrev pub number_of : Value → Result ℤ Fatal
number_of Null = Ok (pos 0)
number_of (Boolean truth) = Ok (int_of_bool truth)
number_of (Int z) = Ok z
number_of (Str bytes) = number_of_numeric (numeric_of bytes)
number_of (Arr pairs next_key) = Err BadOperand
number_of (Obj number) = Err BadOperand

-- ---- to a key (PHP manual, Arrays)

-- a string that is the decimal of the int that it spells, as `8` and no `08`, is that int
abbrev pub key_if_decimal : List ℕ → Numeric → Key
key_if_decimal bytes (Whole z) = if bytes_eq (signed_decimal z) bytes then key.Int z else key.Str bytes
key_if_decimal bytes NoNumber = key.Str bytes
key_if_decimal bytes FloatLike = key.Str bytes

abbrev pub key_of_text : List ℕ → Key
key_of_text bytes = key_if_decimal bytes (numeric_of bytes)

abbrev pub to_key : Value → Result Key Fatal
to_key Null = Ok (key.Str [])
to_key (Boolean truth) = Ok (key.Int (int_of_bool truth))
to_key (Int z) = Ok (key.Int z)
to_key (Str bytes) = Ok (key_of_text bytes)
to_key (Arr pairs next_key) = Err IllegalOffset
to_key (Obj number) = Err IllegalOffset

-- the value that a key is
abbrev pub value_of_key : Key → Value
value_of_key (key.Int z) = Int z
value_of_key (key.Str bytes) = Str bytes

-- ---- examples

zero_strings : (to_bool (Str (codes "0")) ≡ false) × (to_bool (Str (codes "00")) ≡ true)
zero_strings = (refl, refl)

int_of_front : (to_int (Str (codes " 12abc")) ≡ Ok (pos 12))
    × ((to_int (Str (codes "1e1")) ≡ Err Float) × (to_int (Str (codes "abc")) ≡ Ok (pos 0)))
int_of_front = (refl, (refl, refl))

text_of_ints : to_text (Int (neg_ℤ (pos 9223372036854775808))) ≡ Ok (codes "-9223372036854775808")
unfolding digits
text_of_ints = refl

numbers : (number_of (Str (codes "12abc")) ≡ Err BadOperand) × (number_of (Str (codes " 12 ")) ≡ Ok (pos 12))
numbers = (refl, refl)

canonical_keys : (to_key (Str (codes "8")) ≡ Ok (key.Int (pos 8))) × ((to_key (Str (codes "-8")) ≡ Ok (key.Int (neg_ℤ (pos 8))))
    × (to_key (Str (codes "9223372036854775807")) ≡ Ok (key.Int (pos 9223372036854775807))))
unfolding digits
canonical_keys = (refl, (refl, refl))

other_keys : (to_key (Str (codes "08")) ≡ Ok (key.Str (codes "08"))) × ((to_key (Str (codes "-0")) ≡ Ok (key.Str (codes "-0")))
    × ((to_key (Str (codes " 8")) ≡ Ok (key.Str (codes " 8")))
    × (to_key (Str (codes "9223372036854775808")) ≡ Ok (key.Str (codes "9223372036854775808")))))
unfolding digits
other_keys = (refl, (refl, (refl, refl)))
