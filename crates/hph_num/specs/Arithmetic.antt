-- The arithmetic operators on whole numbers (PHP manual, Arithmetic Operators), over all whole numbers and then held to 64 bits.
-- Where PHP gives a float, for a result past the range or one that is no whole number, the fault is this project's own.
use Rattle.std.specs.Prelude.{◌≡◌, ℤ, pos, negsuc, ◌+ℤ◌, ◌-ℤ◌, ◌*ℤ◌, neg_ℤ, int_div, int_rem, if◌then◌else◌}
use Rattle.std.specs.Ordering.{int_eq}
use Rattle.std.specs.Int.{int_pow}
use Rattle.std.proofs.Common.{Result, Ok, Err, refl}
use Rattle.hph_num.specs.declared.fault.NumFault.{NumFault}
use Rattle.hph_num.specs.declared.fault.NumFault.TheVariants.{Overflow, DivZero, NotWhole}
use Rattle.hph_num.specs.Range.{within_i64}

-- ---- sums

abbrev pub sum_of : ℤ → ℤ → Result ℤ NumFault
sum_of a b = within_i64 (a +ℤ b)

abbrev pub difference_of : ℤ → ℤ → Result ℤ NumFault
difference_of a b = within_i64 (a -ℤ b)

abbrev pub negation_of : ℤ → Result ℤ NumFault
negation_of a = within_i64 (neg_ℤ a)

carries : sum_of (pos 4294967295) (pos 1) ≡ Ok (pos 4294967296)
carries = refl

past_the_greatest : sum_of (pos 9223372036854775807) (pos 1) ≡ Err Overflow
past_the_greatest = refl

goes_below_zero : difference_of (pos 20) (pos 22) ≡ Ok (neg_ℤ (pos 2))
goes_below_zero = refl

least_negated : negation_of (neg_ℤ (pos 9223372036854775808)) ≡ Err Overflow
least_negated = refl

-- ---- products

abbrev pub product_of : ℤ → ℤ → Result ℤ NumFault
product_of a b = within_i64 (a *ℤ b)

-- a power to a negative exponent is no whole number
abbrev pub power_of : ℤ → ℤ → Result ℤ NumFault
power_of a (pos e) = within_i64 (int_pow a e)
power_of a (negsuc e) = Err NotWhole

least_by_minus_one : product_of (neg_ℤ (pos 9223372036854775808)) (neg_ℤ (pos 1)) ≡ Err Overflow
least_by_minus_one = refl

zero_to_the_zeroth : power_of (pos 0) (pos 0) ≡ Ok (pos 1)
zero_to_the_zeroth = refl

odd_power : power_of (neg_ℤ (pos 7)) (pos 3) ≡ Ok (neg_ℤ (pos 343))
odd_power = refl

reaches_the_least : power_of (neg_ℤ (pos 2)) (pos 63) ≡ Ok (neg_ℤ (pos 9223372036854775808))
reaches_the_least = refl

negative_exponent : power_of (pos 2) (neg_ℤ (pos 1)) ≡ Err NotWhole
negative_exponent = refl

-- ---- quotients

-- the remainder has the dividend's sign
abbrev pub remainder_of : ℤ → ℤ → Result ℤ NumFault
remainder_of a b = if int_eq b (pos 0) then Err DivZero else Ok (int_rem a b)

-- a quotient is exact, or no whole number
abbrev pub quotient_of : ℤ → ℤ → Result ℤ NumFault
quotient_of a b =
    if int_eq b (pos 0) then Err DivZero else
    (if int_eq (int_rem a b) (pos 0) then within_i64 (int_div a b) else Err NotWhole)

dividend_sign : remainder_of (neg_ℤ (pos 7)) (pos 3) ≡ Ok (neg_ℤ (pos 1))
dividend_sign = refl

divisor_sign_is_lost : remainder_of (pos 7) (neg_ℤ (pos 3)) ≡ Ok (pos 1)
divisor_sign_is_lost = refl

remainder_of_the_least : remainder_of (neg_ℤ (pos 9223372036854775808)) (neg_ℤ (pos 1)) ≡ Ok (pos 0)
remainder_of_the_least = refl

remainder_by_zero : remainder_of (pos 5) (pos 0) ≡ Err DivZero
remainder_by_zero = refl

exact : quotient_of (neg_ℤ (pos 42)) (pos 7) ≡ Ok (neg_ℤ (pos 6))
exact = refl

not_exact : quotient_of (pos 7) (pos 2) ≡ Err NotWhole
not_exact = refl

quotient_by_zero : quotient_of (pos 0) (pos 0) ≡ Err DivZero
quotient_by_zero = refl

quotient_of_the_least : quotient_of (neg_ℤ (pos 9223372036854775808)) (neg_ℤ (pos 1)) ≡ Err Overflow
quotient_of_the_least = refl
