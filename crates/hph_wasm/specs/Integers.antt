-- Operators on integers of N bits, each given as the number of its bits (Core Specification 1.0, 4.3.2).
-- None is an undefined result, at which the instruction traps.
use Rattle.std.specs.Prelude.{ℕ, zero, suc, ◌+◌, ◌-◌, ◌*◌, ◌/◌, ◌%◌, ◌^◌, ℤ, pos, negsuc, ◌-ℤ◌, int_lt, int_div, int_rem, Bool, true, false, not, if◌then◌else◌, nat_eq, nat_lt, Option, Some, None, bit_and, bit_or, bit_xor, count_ones}
use lib.Count.{count_leading_zeros, count_trailing_zeros}
use Rattle.hph_wasm.specs.declared.instr.Sign.{Sign}
use Rattle.hph_wasm.specs.declared.instr.Sign.TheVariants.{Signed, Unsigned}
use Rattle.hph_wasm.specs.declared.instr.Unary.{Unary}
use Rattle.hph_wasm.specs.declared.instr.Unary.TheVariants.{Clz, Ctz, Popcnt}
use Rattle.hph_wasm.specs.declared.instr.Binary.{Binary}
use Rattle.hph_wasm.specs.declared.instr.Binary.TheVariants.{Add, Sub, Mul, Div, Rem, And, Or, Xor, Shl, Shr, Rotl, Rotr}
use Rattle.hph_wasm.specs.declared.instr.Comparison.{Comparison}
use Rattle.hph_wasm.specs.declared.instr.Comparison.TheVariants.{Eq, Ne, Lt, Gt, Le, Ge}

-- signed_N: the number that N bits are in two's complement.
unfoldable pub signed : ℕ → ℕ → ℤ
signed n i = if nat_lt i (2 ^ (n - 1)) then pos i else pos i -ℤ pos (2 ^ n)

-- Its inverse, for a number outside the range too: the one of N bits that differs from it by a multiple of 2^N.
unfoldable pub unsigned : ℕ → ℤ → ℕ
unsigned n (pos i) = i % 2 ^ n
unsigned n (negsuc i) = 2 ^ n - 1 - i % 2 ^ n

-- A truth value is 1 or 0.
abbrev pub truth : Bool → ℕ
truth true = 1
truth false = 0

-- iclz_N, ictz_N, ipopcnt_N: the zeros above the highest one, those below the lowest one, and the ones.
unfoldable pub unary : Unary → ℕ → ℕ → ℕ
unary Clz n i = count_leading_zeros n i
unary Ctz n i = count_trailing_zeros n i
unary Popcnt n i = count_ones i

-- idiv_u and idiv_s, which round towards zero; a quotient of 2^(N-1) isn't one of N bits with a sign.
unfoldable pub quotient : Sign → ℕ → ℕ → ℕ → Option ℕ
quotient sign n i zero = None
quotient Unsigned n i (suc j) = Some (i / suc j)
quotient Signed n i (suc j) =
    let q = int_div (signed n i) (signed n (suc j)) in if int_lt q (pos (2 ^ (n - 1))) then Some (unsigned n q) else None

-- irem_u and irem_s, which has the sign of the dividend.
unfoldable pub remainder : Sign → ℕ → ℕ → ℕ → Option ℕ
remainder sign n i zero = None
remainder Unsigned n i (suc j) = Some (i % suc j)
remainder Signed n i (suc j) = Some (unsigned n (int_rem (signed n i) (signed n (suc j))))

-- ishr_u and ishr_s, by fewer bits than there are; the second moves in copies of the sign.
unfoldable pub shifted_right : Sign → ℕ → ℕ → ℕ → ℕ
shifted_right Unsigned n i k = i / 2 ^ k
shifted_right Signed n i k = if nat_lt i (2 ^ (n - 1)) then i / 2 ^ k else i / 2 ^ k + (2 ^ n - 2 ^ (n - k))

-- irotl, by fewer bits than there are: what leaves at the top comes in below.
unfoldable pub rotated_left : ℕ → ℕ → ℕ → ℕ
rotated_left n i k = (i * 2 ^ k) % 2 ^ n + i / 2 ^ (n - k)

-- The operators on two numbers; a shift or a rotation is by the second number modulo N.
unfoldable pub binary : Binary → ℕ → ℕ → ℕ → Option ℕ
binary Add n i j = Some ((i + j) % 2 ^ n)
binary Sub n i j = Some ((i + 2 ^ n - j) % 2 ^ n)
binary Mul n i j = Some ((i * j) % 2 ^ n)
binary (Div sign) n i j = quotient sign n i j
binary (Rem sign) n i j = remainder sign n i j
binary And n i j = Some (bit_and i j)
binary Or n i j = Some (bit_or i j)
binary Xor n i j = Some (bit_xor i j)
binary Shl n i j = Some ((i * 2 ^ (j % n)) % 2 ^ n)
binary (Shr sign) n i j = Some (shifted_right sign n i (j % n))
binary Rotl n i j = Some (rotated_left n i (j % n))
binary Rotr n i j = Some (rotated_left n i ((n - j % n) % n))

-- ilt_u and ilt_s.
unfoldable pub less : Sign → ℕ → ℕ → ℕ → Bool
less Unsigned n i j = nat_lt i j
less Signed n i j = int_lt (signed n i) (signed n j)

-- The comparisons.
unfoldable pub comparison : Comparison → ℕ → ℕ → ℕ → Bool
comparison Eq n i j = nat_eq i j
comparison Ne n i j = not (nat_eq i j)
comparison (Lt sign) n i j = less sign n i j
comparison (Gt sign) n i j = less sign n j i
comparison (Le sign) n i j = not (less sign n j i)
comparison (Ge sign) n i j = not (less sign n i j)

-- wrap_M,N: the lowest N bits.
unfoldable pub wrapped : ℕ → ℕ → ℕ
wrapped n i = i % 2 ^ n

-- extend_u_M,N and extend_s_M,N: M bits as N bits.
unfoldable pub extended : Sign → ℕ → ℕ → ℕ → ℕ
extended Unsigned m n i = i
extended Signed m n i = unsigned n (signed m i)
