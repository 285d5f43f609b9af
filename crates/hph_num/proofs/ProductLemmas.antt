-- Products that are past 64 bits, as a division finds them.
use Rattle.std.proofs.Common.{◌≡◌, refl, ◌∙◌, ℕ, zero, suc, ◌-◌, ◌*◌, ◌/◌, ℤ, pos, negsuc, ◌*ℤ◌, neg_ℤ, nat_abs, ◌<◌, ◌^◌, Bool, true, false, not, arith, nat_lt, div-lt_iff_lt-mul}
use Rattle.std.proofs.lemmas.Bool.Decides.{nat_tests}
use Rattle.std.specs.Bool.{beq}
use Rattle.std.specs.Prelude.{int_lt}
use Rattle.hph_num.specs.Range.{fits_i64, largest_size}

-- two tests of facts that follow from each other
same_test : (a b c d : ℕ) → (a < b → c < d) → (c < d → a < b) → nat_lt a b ≡ nat_lt c d
same_test a b c d there back = grind (arith, nat_tests)

-- a quotient below a number, as a product
quotient_below : (most other size : ℕ) → 0 < other → nat_lt (most / other) size ≡ nat_lt most (size * other)
quotient_below most other size some =
    same_test (most / other) size most (size * other) (λ h. (div-lt_iff_lt-mul some).0 h) (λ h. (div-lt_iff_lt-mul some).1 h)

-- a number past the range upward
past_greatest : (n : ℕ) → nat_lt (2 ^ 63 - 1) n ≡ not (fits_i64 (pos n))
past_greatest n = grind (arith, nat_tests)

-- a number past the range downward
past_least : (n : ℕ) → nat_lt (2 ^ 63) n ≡ not (fits_i64 (neg_ℤ (pos n)))
past_least zero = refl
past_least (suc n) = grind (arith, nat_tests)

-- whether a number is negative, by its sign
is_negative : ℤ → Bool
is_negative (pos n) = false
is_negative (negsuc n) = true

-- the test against 0 goes by the sign
int_lt-zero : (z : ℤ) → int_lt z (pos 0) ≡ is_negative z
unfolding is_negative
int_lt-zero (pos n) = grind (arith, nat_tests)
int_lt-zero (negsuc n) = refl

-- the size of a product, against the largest size with its sign
past : (a b : ℤ) → nat_lt (largest_size (not (beq (is_negative a) (is_negative b)))) (nat_abs a * nat_abs b) ≡ not (fits_i64 (a *ℤ b))
unfolding is_negative
past (pos m) (pos n) = past_greatest (m * n)
past (pos m) (negsuc n) = past_least (m * suc n)
past (negsuc m) (pos n) = past_least (suc m * n)
past (negsuc m) (negsuc n) = past_greatest (suc m * suc n)

-- the same by a division
pub overflows : (a b : ℤ) (most size other : ℕ) → most ≡ largest_size (not (beq (int_lt a (pos 0)) (int_lt b (pos 0))))
    → size ≡ nat_abs a → other ≡ nat_abs b → 0 < other → nat_lt (most / other) size ≡ not (fits_i64 (a *ℤ b))
overflows a b most size other is_most is_size is_other some =
    quotient_below most other size some
    ∙ rw (is_most, is_size, is_other) (rw (int_lt-zero a, int_lt-zero b) (past a b))
