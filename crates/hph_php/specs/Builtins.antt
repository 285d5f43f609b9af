-- Functions that are built in (PHP manual, Function Reference). A call tests how many arguments there are, then their types from
-- the left, then what is the function's own. The fatal errors are this project's own: for PHP's exceptions, and for floats.
use Rattle.std.specs.Prelude.{◌≡◌, ◌+◌, ◌-◌, ℕ, ℤ, pos, negsuc, neg_ℤ, Bool, true, false, nat_lt, unsigned_abs, int_div, is_some}
use Rattle.std.specs.Prelude.{List, [], ◌∷◌, ◌++◌, map, length, reverse, drop, Option, None, Some, Result, Ok, Err, if◌then◌else◌, codes}
use Rattle.std.specs.Ordering.{int_eq}
use Rattle.std.specs.Option.{ok_or}
use Rattle.std.specs.Char.{to_ascii_lowercase, to_ascii_uppercase}
use Rattle.std.specs.Map.{keys_of, values_of}
use Rattle.std.specs.Fmt.{digits}
use Rattle.std.proofs.Common.{refl}
use Rattle.hph_num.specs.Range.{within_i64}
use Rattle.hph_array.specs.declared.key.Key.TheVariants as key
use Rattle.hph_php.specs.declared.fatal.Fatal.{Fatal}
use Rattle.hph_php.specs.declared.fatal.Fatal.TheVariants.{Overflow, Float, DivZero, BadOperand, ObjectUse, TooFewArguments, BadArgument}
use Rattle.hph_php.specs.declared.fatal.Fatal.TheVariants.{Misuse}
use Rattle.hph_php.specs.declared.builtin.Builtin.{Builtin}
use Rattle.hph_php.specs.declared.builtin.Builtin.TheVariants as f
use Rattle.hph_php.specs.Values.{Value, Null, Boolean, Int, Str, Arr, Obj, array_of, array_value}
use Rattle.hph_php.specs.Conversions.{and_then, map_ok, settled, to_bool, to_text, to_key, value_of_key, number_of}
use Rattle.hph_php.specs.Comparison.{loosely_equal, identical}
use Rattle.hph_php.specs.Arrays.{Array, get, list_array}
use Rattle.hph_php.specs.StringFunctions.{first_byte, byte_of, substr, offset_in, strpos, str_repeat, trim, implode, explode}
use Rattle.hph_php.specs.VarDump.{dump_all}

-- ---- parameters

-- what a parameter takes: a text, a number, an array, or any value
pub data Parameter : Type 0 where
  a_text : Parameter
  a_number : Parameter
  an_array : Parameter
  a_value : Parameter

abbrev pub Argument : Parameter → Type 0
Argument a_text = List ℕ
Argument a_number = ℤ
Argument an_array = Array Value
Argument a_value = Value

abbrev pub text_argument : Value → Result (List ℕ) Fatal
text_argument (Arr pairs next_key) = Err BadArgument
text_argument (Obj number) = Err BadArgument
text_argument value = to_text value

-- what is no operand of arithmetic is no argument
abbrev pub as_argument : {A : Type 0} → Result A Fatal → Result A Fatal
as_argument (Err BadOperand) = Err BadArgument
as_argument other = other

abbrev pub number_argument : Value → Result ℤ Fatal
number_argument value = as_argument (number_of value)

abbrev pub array_argument : Value → Result (Array Value) Fatal
array_argument (Arr pairs next_key) = Ok (array_of pairs next_key)
array_argument value = Err BadArgument

abbrev pub argument : (parameter : Parameter) → Value → Result (Argument parameter) Fatal
argument a_text value = text_argument value
argument a_number value = number_argument value
argument an_array value = array_argument value
argument a_value value = Ok value

-- a function of such arguments
abbrev pub Function : List Parameter → Type 0
Function [] = Result Value Fatal
Function (parameter ∷ parameters) = Argument parameter → Function parameters

-- a function at as many values as it has parameters
abbrev pub applied : (parameters : List Parameter) → Function parameters → List Value → Result Value Fatal
applied [] function values = function
applied (parameter ∷ parameters) function [] = Err TooFewArguments
applied (parameter ∷ parameters) function (value ∷ values) =
    and_then (argument parameter value) (λ x. applied parameters (function x) values)

-- The last parameters have defaults.
abbrev pub call : (parameters : List Parameter) → List Value → Function parameters → List Value → Result Value Fatal
call parameters defaults function values =
    if nat_lt (length values + length defaults) (length parameters) then Err TooFewArguments
    else (if nat_lt (length parameters) (length values) then Err BadArgument
    else applied parameters function (values ++ drop (length values + length defaults - length parameters) defaults))

-- ---- functions

abbrev pub intdiv : ℤ → ℤ → Result Value Fatal
intdiv a b = if int_eq b (pos 0) then Err DivZero else map_ok Int (settled (within_i64 (int_div a b)))

abbrev pub abs : ℤ → Result Value Fatal
abs a = map_ok Int (settled (within_i64 (pos (unsigned_abs a))))

-- a length may be null, for all bytes to the end
abbrev pub length_argument : Value → Result (Option ℤ) Fatal
length_argument Null = Ok None
length_argument value = map_ok Some (number_argument value)

abbrev pub place_or_false : Option ℕ → Value
place_or_false None = Boolean false
place_or_false (Some place) = Int (pos place)

abbrev pub repeated : List ℕ → ℤ → Result Value Fatal
repeated bytes (pos times) = Ok (Str (str_repeat bytes times))
repeated bytes (negsuc times) = Err BadArgument

-- the texts of values, from the first on
abbrev pub texts_of : List Value → Result (List (List ℕ)) Fatal
texts_of [] = Ok []
texts_of (value ∷ values) = and_then (to_text value) (λ text. map_ok (λ texts. text ∷ texts) (texts_of values))

abbrev pub exploded : List ℕ → List ℕ → Result Value Fatal
exploded [] bytes = Err BadArgument
exploded (b ∷ bs) bytes = Ok (array_value (list_array (map Str (explode (b ∷ bs) bytes))))

-- the second is asked only where the first doesn't hold
abbrev pub or_else : Result Bool Fatal → Result Bool Fatal → Result Bool Fatal
or_else (Ok true) second = Ok true
or_else (Ok false) second = second
or_else (Err fatal) second = Err fatal

-- a value of the list equals, by `==` or by `===`
abbrev pub is_among : Bool → Value → List Value → Result Bool Fatal
is_among strict value [] = Ok false
is_among strict value (other ∷ others) =
    or_else (if strict then Ok (identical value other) else loosely_equal value other) (is_among strict value others)

abbrev pub is_int : Value → Bool
is_int (Int z) = true
is_int _ = false

abbrev pub is_string : Value → Bool
is_string (Str bytes) = true
is_string _ = false

abbrev pub is_bool : Value → Bool
is_bool (Boolean truth) = true
is_bool _ = false

abbrev pub is_array : Value → Bool
is_array (Arr pairs next_key) = true
is_array _ = false

abbrev pub is_null : Value → Bool
is_null Null = true
is_null _ = false

abbrev pub is_object : Value → Bool
is_object (Obj number) = true
is_object _ = false

-- ---- calls

-- what a call prints, and then its value or a fatal error
pub record Reply : Type 0 where
  pub printed : List ℕ
  pub value : Result Value Fatal

abbrev pub silent : Result Value Fatal → Reply
silent value = record { printed = []; value = value }

abbrev pub test : (Value → Bool) → List Value → Reply
test is_such values = silent (call (a_value ∷ []) [] (λ v. Ok (Boolean (is_such v))) values)

abbrev pub var_dump : List Value → Reply
var_dump [] = silent (Err TooFewArguments)
var_dump (value ∷ values) = record {
  printed = (dump_all (value ∷ values)).text;
  value = if (dump_all (value ∷ values)).meets_object then Err ObjectUse else Ok Null;
}

-- array_push and array_pop change an array in its place, and are no functions of values.
abbrev pub takes_values : Builtin → Bool
takes_values f.ArrayPush = false
takes_values f.ArrayPop = false
takes_values _ = true

-- A call of array_push or array_pop by value is a wrong use of the import.
abbrev pub builtin_of : Builtin → List Value → Reply
builtin_of f.Strlen values = silent (call (a_text ∷ []) [] (λ s. Ok (Int (pos (length s)))) values)
builtin_of f.Count values = silent (call (an_array ∷ []) [] (λ a. Ok (Int (pos (length a.pairs)))) values)
builtin_of f.Intdiv values = silent (call (a_number ∷ a_number ∷ []) [] intdiv values)
builtin_of f.Abs values = silent (call (a_number ∷ []) [] abs values)
builtin_of f.Ord values = silent (call (a_text ∷ []) [] (λ s. Ok (Int (pos (first_byte s)))) values)
builtin_of f.Chr values = silent (call (a_number ∷ []) [] (λ i. Ok (Str (byte_of i ∷ []))) values)
builtin_of f.Substr values =
    silent (call (a_text ∷ a_number ∷ a_value ∷ []) (Null ∷ []) (λ s i v. map_ok (λ len. Str (substr s i len)) (length_argument v)) values)
builtin_of f.Strpos values = silent (call (a_text ∷ a_text ∷ a_number ∷ []) (Int (pos 0) ∷ [])
    (λ s needle i. map_ok (λ offset. place_or_false (strpos s needle offset)) (ok_or (offset_in s i) BadArgument)) values)
builtin_of f.StrRepeat values = silent (call (a_text ∷ a_number ∷ []) [] repeated values)
builtin_of f.Strrev values = silent (call (a_text ∷ []) [] (λ s. Ok (Str (reverse s))) values)
builtin_of f.Strtolower values = silent (call (a_text ∷ []) [] (λ s. Ok (Str (map to_ascii_lowercase s))) values)
builtin_of f.Strtoupper values = silent (call (a_text ∷ []) [] (λ s. Ok (Str (map to_ascii_uppercase s))) values)
builtin_of f.Trim values = silent (call (a_text ∷ []) [] (λ s. Ok (Str (trim s))) values)
builtin_of f.Implode values =
    silent (call (a_text ∷ an_array ∷ []) [] (λ s a. map_ok (λ texts. Str (implode s texts)) (texts_of (values_of a.pairs))) values)
builtin_of f.Explode values = silent (call (a_text ∷ a_text ∷ []) [] exploded values)
builtin_of f.ArrayKeys values =
    silent (call (an_array ∷ []) [] (λ a. Ok (array_value (list_array (map value_of_key (keys_of a.pairs))))) values)
builtin_of f.ArrayValues values = silent (call (an_array ∷ []) [] (λ a. Ok (array_value (list_array (values_of a.pairs)))) values)
builtin_of f.ArrayPush values = silent (Err Misuse)
builtin_of f.ArrayPop values = silent (Err Misuse)
builtin_of f.InArray values = silent (call (a_value ∷ an_array ∷ a_value ∷ []) (Boolean false ∷ [])
    (λ v a strict. map_ok Boolean (is_among (to_bool strict) v (values_of a.pairs))) values)
builtin_of f.ArrayKeyExists values =
    silent (call (a_value ∷ an_array ∷ []) [] (λ v a. map_ok (λ k. Boolean (is_some (get a k))) (to_key v)) values)
builtin_of f.IsInt values = test is_int values
builtin_of f.IsString values = test is_string values
builtin_of f.IsBool values = test is_bool values
builtin_of f.IsArray values = test is_array values
builtin_of f.IsNull values = test is_null values
builtin_of f.IsObject values = test is_object values
builtin_of f.VarDump values = var_dump values

-- how many arguments a call has at least
abbrev pub least_arguments : Builtin → ℕ
least_arguments f.Intdiv = 2
least_arguments f.Substr = 2
least_arguments f.Strpos = 2
least_arguments f.StrRepeat = 2
least_arguments f.Implode = 2
least_arguments f.Explode = 2
least_arguments f.InArray = 2
least_arguments f.ArrayKeyExists = 2
least_arguments _ = 1

-- ---- examples

counts : ((builtin_of f.Strlen []).value ≡ Err TooFewArguments) × (((builtin_of f.Strlen (Null ∷ Null ∷ [])).value ≡ Err BadArgument)
    × ((builtin_of f.Strlen (Int (negsuc 9) ∷ [])).value ≡ Ok (Int (pos 3))))
unfolding digits
counts = (refl, (refl, refl))

-- intdiv(-7, 2), intdiv(PHP_INT_MIN, -1), intdiv(1, 0), abs("1.5"), abs("x")
numbers : ((builtin_of f.Intdiv (Int (negsuc 6) ∷ Int (pos 2) ∷ [])).value ≡ Ok (Int (negsuc 2)))
    × (((builtin_of f.Intdiv (Int (neg_ℤ (pos 9223372036854775808)) ∷ Int (negsuc 0) ∷ [])).value ≡ Err Overflow)
    × (((builtin_of f.Intdiv (Int (pos 1) ∷ Int (pos 0) ∷ [])).value ≡ Err DivZero)
    × (((builtin_of f.Abs (Str (codes "1.5") ∷ [])).value ≡ Err Float)
    × ((builtin_of f.Abs (Str (codes "x") ∷ [])).value ≡ Err BadArgument))))
numbers = (refl, (refl, (refl, (refl, refl))))

-- substr("hello", 1), substr("hello", 1, -1), strpos("abcabc", "a", -3), strpos("abc", "", -1)
strings : ((builtin_of f.Substr (Str (codes "hello") ∷ Int (pos 1) ∷ [])).value ≡ Ok (Str (codes "ello")))
    × (((builtin_of f.Substr (Str (codes "hello") ∷ Int (pos 1) ∷ Int (negsuc 0) ∷ [])).value ≡ Ok (Str (codes "ell")))
    × (((builtin_of f.Strpos (Str (codes "abcabc") ∷ Str (codes "a") ∷ Int (negsuc 2) ∷ [])).value ≡ Ok (Int (pos 3)))
    × ((builtin_of f.Strpos (Str (codes "abc") ∷ Str [] ∷ Int (negsuc 0) ∷ [])).value ≡ Ok (Int (pos 2)))))
strings = (refl, (refl, (refl, refl)))

-- in_array("1e1", ["10"]), in_array("1e1", ["10"], 1), array_key_exists(null, ["" => 1])
abbrev ten : Value
ten = array_value (list_array (Str (codes "10") ∷ []))

abbrev with_empty_key : Value
with_empty_key = array_value (record { pairs = (key.Str [], Int (pos 1)) ∷ []; next_key = 0 })

members : ((builtin_of f.InArray (Str (codes "1e1") ∷ ten ∷ [])).value ≡ Err Float)
    × (((builtin_of f.InArray (Str (codes "1e1") ∷ ten ∷ Int (pos 1) ∷ [])).value ≡ Ok (Boolean false))
    × ((builtin_of f.ArrayKeyExists (Null ∷ with_empty_key ∷ [])).value ≡ Ok (Boolean true)))
members = (refl, (refl, refl))

-- var_dump(1, an object): the first is printed
dumps : builtin_of f.VarDump (Int (pos 1) ∷ Obj 0 ∷ []) ≡ record { printed = codes "int(1)\n"; value = Err ObjectUse }
unfolding digits
dumps = refl
