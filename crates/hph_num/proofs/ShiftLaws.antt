-- Laws of the shifts: they are a product and a quotient by a power of two, for every count.
use Rattle.std.proofs.Common.{◌≡◌, refl, sym, ap, ◌∙◌, ℕ, ◌+◌, ◌*◌, ◌/◌, ◌%◌, ◌^◌, ◌<◌, ◌≤◌, ◌-◌, ℤ, pos, negsuc, ◌*ℤ◌, Bool, true, false, arith, nat_lt, Ok, FitsSigned, to_z, of_z, to_z-of_z, pow_mono, pow-add, mod-eq_of_lt, if◌then◌else◌}
use Rattle.std.proofs.lemmas.Bool.Decides.{nat_tests}
use Rattle.std.proofs.Math.Nat.{mul-mod_right}
use Rattle.std.proofs.Math.IntN.{*ℤ-zero}
use Rattle.std.proofs.Math.Facts.{Fits-of_z}
use Rattle.std.proofs.lemmas.Nat.{pow_below}
use Rattle.std.proofs.lemmas.Int.{int_wrap-mul_right, wrapping_mul-bits}
use Rattle.std.specs.Int.{w64, int_shl, int_shr, int_wrap}
use Rattle.hph_num.specs.Shifts.{shift_left_of, shift_right_of, sign_bits}

-- a shift by 64 or more leaves nothing of a number's size
small_quotient : (n k : ℕ) → n < 2 ^ 63 → 64 ≤ k → n / 2 ^ k ≡ 0
small_quotient n k fits far =
    let more : 2 ^ 64 ≤ 2 ^ k = pow_mono far in
    let below : n < 2 ^ k = omega arith in
    grind arith

-- what is left are copies of the sign
far_right : (a : ℤ) (k : ℕ) → FitsSigned w64 a → 64 ≤ k → sign_bits a ≡ int_shr a k
far_right (pos n) k fits far = let f : n < 2 ^ 63 = fits.sfits in ap pos (sym (small_quotient n k f far))
far_right (negsuc n) k fits far = let f : n < 2 ^ 63 = fits.sfits in ap negsuc (sym (small_quotient n k f far))

-- both cases of the count
right_is : (a : ℤ) (k : ℕ) (near : Bool) → FitsSigned w64 a → nat_lt k 64 ≡ near → (if near then int_shr a k else sign_bits a) ≡ int_shr a k
right_is a k true fits h = refl
right_is a k false fits h = far_right a k fits (grind (arith, nat_tests))

-- a shift to the right rounds the quotient by a power of two down
pub shift_right_of-is : (a : ℤ) (k : ℕ) → FitsSigned w64 a → shift_right_of a (pos k) ≡ Ok (int_shr a k)
shift_right_of-is a k fits = ap Ok (right_is a k (nat_lt k 64) fits refl)

-- ---- to the left

-- a power of two, as the low 64 bits have it
low_power : (k : ℕ) → k < 64 → int_wrap w64 (pos (2 ^ k)) ≡ to_z w64 (2 ^ k)
unfolding int_wrap
low_power k near = let below : 2 ^ k < 2 ^ 64 = pow_below k 64 near in rw (mod-eq_of_lt below)

-- of a higher power of two they have nothing
high_power : (k : ℕ) → 64 ≤ k → int_wrap w64 (pos (2 ^ k)) ≡ pos 0
unfolding int_wrap
high_power k far =
    let parts : k ≡ 64 + (k - 64) = omega arith in
    let split : 2 ^ k ≡ 2 ^ 64 * 2 ^ (k - 64) = ap (λ n. 2 ^ n) parts ∙ pow-add 2 64 (k - 64) in
    let gone : 2 ^ k % 2 ^ 64 ≡ 0 = rw split (mul-mod_right (2 ^ 64) (2 ^ (k - 64))) in
    rw gone

-- 0 is in the range
zero_wrapped : int_wrap w64 (pos 0) ≡ pos 0
unfolding int_wrap
zero_wrapped = refl

-- both cases of the count
left_is : (a : ℤ) (k : ℕ) (near : Bool) → FitsSigned w64 a → nat_lt k 64 ≡ near
    → (if near then int_shl w64 a k else pos 0) ≡ int_wrap w64 (a *ℤ pos (2 ^ k))
left_is a k true fits h =
    let near : k < 64 = grind (arith, nat_tests) in
    wrapping_mul-bits w64 (of_z w64 a) (2 ^ k) (Fits-of_z fits).fits (pow_below k 64 near)
    ∙ rw (to_z-of_z fits, ← low_power k near) (int_wrap-mul_right w64 a (pos (2 ^ k)))
left_is a k false fits h =
    let far : 64 ≤ k = grind (arith, nat_tests) in
    let nothing : int_wrap w64 (a *ℤ pos 0) ≡ pos 0 = ap (int_wrap w64) (*ℤ-zero a) ∙ zero_wrapped in
    sym nothing ∙ (rw (high_power k far) at (int_wrap-mul_right w64 a (pos (2 ^ k))))

-- a shift to the left is the product with a power of two, of which the low 64 bits are kept
pub shift_left_of-is : (a : ℤ) (k : ℕ) → FitsSigned w64 a → shift_left_of a (pos k) ≡ Ok (int_wrap w64 (a *ℤ pos (2 ^ k)))
shift_left_of-is a k fits = ap Ok (left_is a k (nat_lt k 64) fits refl)
