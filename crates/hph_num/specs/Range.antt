-- The range of PHP's whole numbers: 64 bits with a sign (PHP manual, Integers).
use Rattle.std.specs.Prelude.{◌≡◌, ℕ, ◌-◌, ℤ, pos, negsuc, ◌^◌, Bool, true, false, nat_lt, if◌then◌else◌}
use Rattle.std.proofs.Common.{Result, Ok, Err, refl}
use Rattle.hph_num.specs.declared.fault.NumFault.{NumFault}
use Rattle.hph_num.specs.declared.fault.NumFault.TheVariants.{Overflow}

-- from -2^63 to 2^63 - 1
abbrev pub fits_i64 : ℤ → Bool
fits_i64 (pos n) = nat_lt n (2 ^ 63)
fits_i64 (negsuc n) = nat_lt n (2 ^ 63)

-- the largest size of a negative number in the range, or of another
abbrev pub largest_size : Bool → ℕ
largest_size is_negative = if is_negative then 2 ^ 63 else 2 ^ 63 - 1

-- a result past 64 bits is Overflow
abbrev pub within_i64 : ℤ → Result ℤ NumFault
within_i64 z = if fits_i64 z then Ok z else Err Overflow

-- ---- the ends of the range

greatest : fits_i64 (pos 9223372036854775807) ≡ true
greatest = refl

above_greatest : fits_i64 (pos 9223372036854775808) ≡ false
above_greatest = refl

-- -9223372036854775808
least : fits_i64 (negsuc 9223372036854775807) ≡ true
least = refl

below_least : fits_i64 (negsuc 9223372036854775808) ≡ false
below_least = refl
