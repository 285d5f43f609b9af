-- Operators (PHP manual, Operators). Operands are converted from left to right. Sums, products and powers are taken over all
-- whole numbers; the fatal errors for what PHP gives as a float are this project's own.
use Rattle.std.specs.Prelude.{◌≡◌, ◌++◌, ℤ, pos, negsuc, neg_ℤ, Bool, true, not, [], Result, Ok, Err, codes}
use Rattle.std.specs.declared.cmp.Ordering.{Ordering}
use Rattle.std.specs.declared.cmp.Ordering.TheVariants.{Less, Equal, Greater}
use Rattle.std.specs.Ordering.{is_lt, is_gt, is_le, is_ge}
use Rattle.std.specs.Int.{w64, int_bit_and, int_bit_or, int_bit_xor, int_bit_not}
use Rattle.std.specs.Bool.{beq}
use Rattle.std.specs.Fmt.{digits}
use Rattle.std.proofs.Common.{refl}
use Rattle.hph_num.specs.Arithmetic.{sum_of, difference_of, negation_of, product_of, power_of, quotient_of, remainder_of}
use Rattle.hph_num.specs.Shifts.{shift_left_of, shift_right_of}
use Rattle.hph_php.specs.declared.fatal.Fatal.{Fatal}
use Rattle.hph_php.specs.declared.fatal.Fatal.TheVariants.{Overflow, Float, DivZero, NegativeShift, BadOperand, StringIncrement}
use Rattle.hph_php.specs.declared.operator.BinOp.{BinOp}
use Rattle.hph_php.specs.declared.operator.BinOp.TheVariants as b
use Rattle.hph_php.specs.declared.operator.UnOp.{UnOp}
use Rattle.hph_php.specs.declared.operator.UnOp.TheVariants as u
use Rattle.hph_php.specs.Values.{Value, Null, Boolean, Int, Str, Arr, Obj, array_of, array_value}
use Rattle.hph_php.specs.NumericStrings.{Numeric, NoNumber, Whole, FloatLike, numeric_of}
use Rattle.hph_php.specs.Conversions.{and_then, map_ok, settled, to_bool, to_int, to_text, to_array, number_of}
use Rattle.hph_php.specs.Comparison.{loose_order, loosely_equal, identical}
use Rattle.hph_php.specs.Arrays.{union, list_array}

-- ---- arithmetic

-- an operator on the numbers of its operands
abbrev pub on_numbers : (ℤ → ℤ → Result ℤ Fatal) → Value → Value → Result Value Fatal
on_numbers op x y = and_then (number_of x) (λ a. and_then (number_of y) (λ b. map_ok Int (op a b)))

-- a sum, or a union where both are arrays (Array Operators)
abbrev pub plus : Value → Value → Result Value Fatal
plus (Arr xs n) (Arr ys m) = Ok (array_value (union (array_of xs n) (array_of ys m)))
plus x y = on_numbers (λ a b. settled (sum_of a b)) x y

-- bits of two's complement; two strings are no operands
abbrev pub on_bits : (ℤ → ℤ → ℤ) → Value → Value → Result Value Fatal
on_bits op (Str x) (Str y) = Err BadOperand
on_bits op x y = on_numbers (λ a b. Ok (op a b)) x y

-- `.`: the texts of its operands joined
abbrev pub joined : Value → Value → Result Value Fatal
joined x y = and_then (to_text x) (λ a. and_then (to_text y) (λ b. Ok (Str (a ++ b))))

-- ---- comparison

abbrev pub ordered : (Ordering → Bool) → Value → Value → Result Value Fatal
ordered test x y = map_ok (λ o. Boolean (test o)) (loose_order x y)

abbrev pub int_of_order : Ordering → ℤ
int_of_order Less = negsuc 0
int_of_order Equal = pos 0
int_of_order Greater = pos 1

-- ---- operators

abbrev pub binary_of : BinOp → Value → Value → Result Value Fatal
binary_of b.Add x y = plus x y
binary_of b.Sub x y = on_numbers (λ a b. settled (difference_of a b)) x y
binary_of b.Mul x y = on_numbers (λ a b. settled (product_of a b)) x y
binary_of b.Div x y = on_numbers (λ a b. settled (quotient_of a b)) x y
binary_of b.Rem x y = on_numbers (λ a b. settled (remainder_of a b)) x y
binary_of b.Pow x y = on_numbers (λ a b. settled (power_of a b)) x y
binary_of b.ShiftLeft x y = on_numbers (λ a b. settled (shift_left_of a b)) x y
binary_of b.ShiftRight x y = on_numbers (λ a b. settled (shift_right_of a b)) x y
binary_of b.BitAnd x y = on_bits (int_bit_and w64) x y
binary_of b.BitOr x y = on_bits (int_bit_or w64) x y
binary_of b.BitXor x y = on_bits (int_bit_xor w64) x y
binary_of b.Concat x y = joined x y
binary_of b.Less x y = ordered is_lt x y
binary_of b.LessEqual x y = ordered is_le x y
binary_of b.Greater x y = ordered is_gt x y
binary_of b.GreaterEqual x y = ordered is_ge x y
binary_of b.Equal x y = map_ok Boolean (loosely_equal x y)
binary_of b.NotEqual x y = map_ok (λ e. Boolean (not e)) (loosely_equal x y)
binary_of b.Identical x y = Ok (Boolean (identical x y))
binary_of b.NotIdentical x y = Ok (Boolean (not (identical x y)))
binary_of b.Spaceship x y = map_ok (λ o. Int (int_of_order o)) (loose_order x y)
binary_of b.LogicalXor x y = Ok (Boolean (not (beq (to_bool x) (to_bool y))))

-- `~` takes ints alone
abbrev pub complement : Value → Result Value Fatal
complement (Int z) = Ok (Int (int_bit_not w64 z))
complement x = Err BadOperand

abbrev pub unary_of : UnOp → Value → Result Value Fatal
unary_of u.Plus x = map_ok Int (number_of x)
unary_of u.Minus x = and_then (number_of x) (λ a. map_ok Int (settled (negation_of a)))
unary_of u.BitNot x = complement x
unary_of u.Not x = Ok (Boolean (not (to_bool x)))
unary_of u.ToInt x = map_ok Int (to_int x)
unary_of u.ToBool x = Ok (Boolean (to_bool x))
unary_of u.ToString x = map_ok Str (to_text x)
unary_of u.ToArray x = to_array x

-- ---- `++` and `--`

-- a string that is a whole number moves as that number
abbrev pub moved_string : (ℤ → Result Value Fatal) → Numeric → Result Value Fatal
moved_string move (Whole z) = move z
moved_string move NoNumber = Err StringIncrement
moved_string move FloatLike = Err StringIncrement

-- what becomes of null, and how a number moves
abbrev pub moved : Value → (ℤ → Result Value Fatal) → Value → Result Value Fatal
moved from_null move Null = Ok from_null
moved from_null move (Boolean truth) = Ok (Boolean truth)
moved from_null move (Int z) = move z
moved from_null move (Str bytes) = moved_string move (numeric_of bytes)
moved from_null move (Arr pairs next_key) = Err BadOperand
moved from_null move (Obj number) = Err BadOperand

abbrev pub incremented : Value → Result Value Fatal
incremented x = moved (Int (pos 1)) (λ z. map_ok Int (settled (sum_of z (pos 1)))) x

abbrev pub decremented : Value → Result Value Fatal
decremented x = moved Null (λ z. map_ok Int (settled (difference_of z (pos 1)))) x

-- ---- examples

abbrev greatest : Value
greatest = Int (pos 9223372036854775807)

abbrev least : Value
least = Int (neg_ℤ (pos 9223372036854775808))

abbrev minus_one : Value
minus_one = Int (neg_ℤ (pos 1))

ends_of_the_range : (binary_of b.Div least minus_one ≡ Err Overflow) × ((binary_of b.Rem least minus_one ≡ Ok (Int (pos 0)))
    × ((unary_of u.Minus least ≡ Err Overflow) × (incremented greatest ≡ Err Overflow)))
ends_of_the_range = (refl, (refl, (refl, refl)))

-- 7 / 2, 1 % 0, 2 ** -1, 1 << -1, 1 << 64, -1 >> 64
numbers : (binary_of b.Div (Int (pos 7)) (Int (pos 2)) ≡ Err Float) × ((binary_of b.Rem (Int (pos 1)) (Int (pos 0)) ≡ Err DivZero)
    × ((binary_of b.Pow (Int (pos 2)) minus_one ≡ Err Float) × ((binary_of b.ShiftLeft (Int (pos 1)) minus_one ≡ Err NegativeShift)
    × ((binary_of b.ShiftLeft (Int (pos 1)) (Int (pos 64)) ≡ Ok (Int (pos 0)))
    × (binary_of b.ShiftRight minus_one (Int (pos 64)) ≡ Ok minus_one)))))
numbers = (refl, (refl, (refl, (refl, (refl, refl)))))

-- "1.5" + [], "abc" + "1.5", true + "2": the left operand is converted first
operands_in_order : (binary_of b.Add (Str (codes "1.5")) (array_value (list_array [])) ≡ Err Float)
    × ((binary_of b.Add (Str (codes "abc")) (Str (codes "1.5")) ≡ Err BadOperand)
    × (binary_of b.Add (Boolean true) (Str (codes "2")) ≡ Ok (Int (pos 3))))
operands_in_order = (refl, (refl, refl))

-- -1 & 255, "5" & "3", "5" & 3, ~5
bits : (binary_of b.BitAnd minus_one (Int (pos 255)) ≡ Ok (Int (pos 255)))
    × ((binary_of b.BitAnd (Str (codes "5")) (Str (codes "3")) ≡ Err BadOperand)
    × ((binary_of b.BitAnd (Str (codes "5")) (Int (pos 3)) ≡ Ok (Int (pos 1)))
    × (unary_of u.BitNot (Int (pos 5)) ≡ Ok (Int (neg_ℤ (pos 6))))))
bits = (refl, (refl, (refl, refl)))

-- -1 . "x"
join : binary_of b.Concat minus_one (Str (codes "x")) ≡ Ok (Str (codes "-1x"))
unfolding digits
join = refl

-- $x++ of null, "9", "1.5" and true; $x-- of null
moves : (incremented Null ≡ Ok (Int (pos 1))) × ((incremented (Str (codes "9")) ≡ Ok (Int (pos 10)))
    × ((incremented (Str (codes "1.5")) ≡ Err StringIncrement)
    × ((incremented (Boolean true) ≡ Ok (Boolean true)) × (decremented Null ≡ Ok Null))))
moves = (refl, (refl, (refl, (refl, refl))))
