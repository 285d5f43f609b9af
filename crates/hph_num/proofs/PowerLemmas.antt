-- Powers to exponents of 64 or more.
use Rattle.std.proofs.Common.{◌≡◌, refl, sym, ◌∙◌, ℕ, zero, suc, ◌+◌, ◌%◌, ℤ, pos, negsuc, neg_ℤ, ◌<◌, ◌≤◌, ◌^◌, Bool, true, false, cond, arith, nat_lt, le_trans, Err, ◌==◌, mul-zero, pow-suc, nat_abs, ok_or, if◌then◌else◌, Option}
use Rattle.std.proofs.Math.Nat.{pow-le-pow_left, pow-le-pow_right, pow-zero}
use Rattle.std.proofs.lemmas.Bool.Decides.{nat_tests}
use Rattle.std.specs.Prelude.{int_lt, SomeIff, FitsSigned}
use Rattle.std.specs.Int.{w64, int_pow}
use Rattle.hph_num.specs.declared.fault.NumFault.TheVariants.{Overflow}
use Rattle.hph_num.specs.Range.{within_i64}
use Rattle.hph_num.specs.Arithmetic.{power_of}
use Rattle.hph_num.proofs.RangeLemmas.{kept}

-- ---- powers of 0 and 1

-- a power of 0 is 0, but for the exponent 0
zero_power : (e : ℕ) → 0 < e → 0 ^ e ≡ 0
zero_power zero h = absurd (omega arith)
zero_power (suc e) h = pow-suc 0 e ∙ mul-zero (0 ^ e)

-- a power of 1 is 1
one_power : (e : ℕ) → 1 ^ e ≡ 1
one_power zero = pow-zero 1
one_power (suc e) = pow-suc 1 e ∙ omega (arith, one_power e)

-- ---- powers that are too large

-- from the exponent 64 on, the powers of 2 and more
large_power : (n e : ℕ) → 64 ≤ e → 2 ^ 64 ≤ suc (suc n) ^ e
large_power n e h =
    let base : 2 ^ e ≤ suc (suc n) ^ e = pow-le-pow_left (omega arith) e in
    let exponent : 2 ^ 64 ≤ 2 ^ e = pow-le-pow_right (omega arith) h in
    le_trans exponent base

-- a number from 2^64 on is past the range
past_range : (n : ℕ) → 2 ^ 64 ≤ n → within_i64 (pos n) ≡ Err Overflow
past_range n h = let failed : nat_lt n (2 ^ 63) ≡ false = grind (arith, nat_tests) in rw failed

-- so is its negative
past_negative : (n : ℕ) → 2 ^ 64 ≤ n → within_i64 (neg_ℤ (pos n)) ≡ Err Overflow
past_negative zero h = absurd (omega arith)
past_negative (suc n) h = let failed : nat_lt n (2 ^ 63) ≡ false = grind (arith, nat_tests) in rw failed

-- with either sign
past_signed : (b : Bool) (n : ℕ) → 2 ^ 64 ≤ n → within_i64 (cond b (pos n) (neg_ℤ (pos n))) ≡ Err Overflow
past_signed true n h = past_range n h
past_signed false n h = past_negative n h

-- ---- the exponent's parity

-- two exponents from 64 on with one parity give one answer
parity_tells : (a : ℤ) (e f : ℕ) → 64 ≤ e → 64 ≤ f → e % 2 ≡ f % 2 → within_i64 (int_pow a e) ≡ within_i64 (int_pow a f)
parity_tells (pos zero) e f h k same = rw (zero_power e (omega arith), zero_power f (omega arith))
parity_tells (pos (suc zero)) e f h k same = rw (one_power e, one_power f)
parity_tells (pos (suc (suc n))) e f h k same = past_range _ (large_power n e h) ∙ sym (past_range _ (large_power n f k))
parity_tells (negsuc zero) e f h k same = rw (one_power e, one_power f, same)
parity_tells (negsuc (suc n)) e f h k same =
    past_signed (e % 2 == 0) _ (large_power n e h) ∙ sym (past_signed (f % 2 == 0) _ (large_power n f k))

-- the shortened exponent gives the same answer
shortened : (a : ℤ) (e : ℕ) (b : Bool) → nat_lt e 64 ≡ b → within_i64 (int_pow a (if b then e else 64 + e % 2)) ≡ within_i64 (int_pow a e)
shortened a e true h = refl
shortened a e false h =
    let far : 64 ≤ e = grind (arith, nat_tests) in
    parity_tells a (64 + e % 2) e (omega arith) far (omega arith)

-- what a power to the shortened exponent answers
pub power_is : (a b : ℤ) (size e : ℕ) (o : Option ℤ) → int_lt b (pos 0) ≡ false → size ≡ nat_abs b → e ≡ (if nat_lt size 64 then size else 64 + size % 2)
    → SomeIff o (FitsSigned w64 (int_pow a e)) (int_pow a e) → ok_or o Overflow ≡ power_of a b
power_is a (pos n) size e o sign is_size is_e known =
    kept o (int_pow a e) known ∙ rw (is_e, is_size) (shortened a n (nat_lt n 64) refl)
power_is a (negsuc n) size e o sign is_size is_e known = let no : ⊥ = cc in absurd no
