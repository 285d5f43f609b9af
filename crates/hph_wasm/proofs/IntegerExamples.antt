-- The operators at the ends of their ranges; the results are those of a WebAssembly engine.
use Rattle.std.proofs.Common.{◌≡◌, refl}
use lib.Count
use Rattle.std.specs.Prelude.{true, false, Some, None, negsuc}
use Rattle.hph_wasm.specs.declared.instr.Sign.TheVariants.{Signed, Unsigned}
use Rattle.hph_wasm.specs.declared.instr.Unary.TheVariants.{Clz, Ctz, Popcnt}
use Rattle.hph_wasm.specs.declared.instr.Binary.TheVariants.{Sub, Mul, Div, Rem, Shl, Shr, Rotl, Rotr}
use Rattle.hph_wasm.specs.declared.instr.Comparison.TheVariants.{Lt}
use Rattle.hph_wasm.specs.Integers.{signed, unsigned, unary, quotient, remainder, shifted_right, rotated_left, binary, less, comparison, extended}

-- The least number of 32 bits and of 64 bits.
least_of_32 : signed 32 2147483648 ≡ negsuc 2147483647
unfolding signed
least_of_32 = refl

least_of_64 : signed 64 9223372036854775808 ≡ negsuc 9223372036854775807
unfolding signed
least_of_64 = refl

-- It divided by -1 is past the range.
least_by_minus_one : binary (Div Signed) 64 9223372036854775808 18446744073709551615 ≡ None
unfolding binary quotient signed unsigned
least_by_minus_one = refl

-- The remainder is 0.
least_rem_minus_one : binary (Rem Signed) 64 9223372036854775808 18446744073709551615 ≡ Some 0
unfolding binary remainder signed unsigned
least_rem_minus_one = refl

by_zero : binary (Div Unsigned) 32 7 0 ≡ None
unfolding binary quotient
by_zero = refl

-- A quotient is rounded towards zero, and a remainder has the sign of the dividend.
least_plus_one_by_two : binary (Div Signed) 32 2147483649 2 ≡ Some 3221225473
unfolding binary quotient signed unsigned
least_plus_one_by_two = refl

minus_one_rem_two : binary (Rem Signed) 32 4294967295 2 ≡ Some 4294967295
unfolding binary remainder signed unsigned
minus_one_rem_two = refl

below_zero : binary Sub 32 0 1 ≡ Some 4294967295
unfolding binary
below_zero = refl

minus_one_squared : binary Mul 64 18446744073709551615 18446744073709551615 ≡ Some 1
unfolding binary
minus_one_squared = refl

-- Shifts are by their amount modulo the width.
by_63 : binary Shl 64 1 63 ≡ Some 9223372036854775808
unfolding binary
by_63 = refl

by_64 : binary Shl 64 1 64 ≡ Some 1
unfolding binary
by_64 = refl

sign_moves_in : binary (Shr Signed) 64 9223372036854775808 63 ≡ Some 18446744073709551615
unfolding binary shifted_right
sign_moves_in = refl

zeros_move_in : binary (Shr Unsigned) 32 4294967295 33 ≡ Some 2147483647
unfolding binary shifted_right
zeros_move_in = refl

to_the_left : binary Rotl 64 1311768467463790320 65 ≡ Some 2623536934927580640
unfolding binary rotated_left
to_the_left = refl

to_the_right : binary Rotr 32 305419896 7 ≡ Some 4028917932
unfolding binary rotated_left
to_the_right = refl

-- Zero has only zeros.
zeros_of_zero : unary Clz 64 0 ≡ 64
unfolding unary lib.Count.count_leading_zeros
zeros_of_zero = refl

zeros_below_zero : unary Ctz 64 0 ≡ 64
unfolding unary lib.Count.count_trailing_zeros
zeros_below_zero = refl

ones_of_240 : unary Popcnt 32 240 ≡ 4
unfolding unary lib.Count.ones lib.Count.ones_in
ones_of_240 = refl

-- The least number is less than 1 with a sign alone.
least_is_less : comparison (Lt Signed) 32 2147483648 1 ≡ true
unfolding comparison less signed
least_is_less = refl

least_is_more : comparison (Lt Unsigned) 32 2147483648 1 ≡ false
unfolding comparison less
least_is_more = refl

sign_extends : extended Signed 32 64 2147483648 ≡ 18446744071562067968
unfolding extended signed unsigned
sign_extends = refl
