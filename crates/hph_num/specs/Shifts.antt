-- The shifts of whole numbers of 64 bits (PHP manual, Bitwise Operators).
use Rattle.std.specs.Prelude.{◌≡◌, ℤ, pos, negsuc, neg_ℤ, nat_lt, if◌then◌else◌}
use Rattle.std.specs.Int.{w64, int_shl, int_shr}
use Rattle.std.proofs.Common.{Result, Ok, Err, refl}
use Rattle.hph_num.specs.declared.fault.NumFault.{NumFault}
use Rattle.hph_num.specs.declared.fault.NumFault.TheVariants.{NegativeShift}

-- what is left where each bit is shifted out: copies of the sign
abbrev pub sign_bits : ℤ → ℤ
sign_bits (pos n) = pos 0
sign_bits (negsuc n) = negsuc 0

-- a shift to the left drops the bits that leave the 64
abbrev pub shift_left_of : ℤ → ℤ → Result ℤ NumFault
shift_left_of a (pos k) = Ok (if nat_lt k 64 then int_shl w64 a k else pos 0)
shift_left_of a (negsuc k) = Err NegativeShift

into_the_sign : shift_left_of (pos 3) (pos 63) ≡ Ok (neg_ℤ (pos 9223372036854775808))
into_the_sign = refl

all_bits_out : shift_left_of (neg_ℤ (pos 1)) (pos 64) ≡ Ok (pos 0)
all_bits_out = refl

left_by_a_negative : shift_left_of (pos 1) (neg_ℤ (pos 1)) ≡ Err NegativeShift
left_by_a_negative = refl

-- a shift to the right keeps the sign
abbrev pub shift_right_of : ℤ → ℤ → Result ℤ NumFault
shift_right_of a (pos k) = Ok (if nat_lt k 64 then int_shr a k else sign_bits a)
shift_right_of a (negsuc k) = Err NegativeShift

rounds_down : shift_right_of (neg_ℤ (pos 7)) (pos 1) ≡ Ok (neg_ℤ (pos 4))
rounds_down = refl

sign_alone : shift_right_of (neg_ℤ (pos 1)) (pos 9223372036854775807) ≡ Ok (neg_ℤ (pos 1))
sign_alone = refl

nothing_left : shift_right_of (pos 5) (pos 64) ≡ Ok (pos 0)
nothing_left = refl

right_by_a_negative : shift_right_of (pos 1) (neg_ℤ (pos 1)) ≡ Err NegativeShift
right_by_a_negative = refl
