-- Laws of the arithmetic operators: what an answer says of the operands.
use Rattle.std.proofs.Common.{◌≡◌, refl, sym, ap, ◌∙◌, ℕ, zero, suc, ◌*◌, ◌%◌, ◌^◌, ℤ, pos, negsuc, ◌+ℤ◌, ◌*ℤ◌, neg_ℤ, int_div, int_rem, Bool, true, false, cond, ◌==◌, arith, Ok, Err, pow-suc, zero-mul, if◌then◌else◌, ◌<◌, nat_abs}
use Rattle.std.proofs.Math.Nat.{pow-zero}
use Rattle.std.proofs.Math.IntN.{+ℤ_comm, *ℤ_comm}
use Rattle.std.proofs.lemmas.Bool.Decides.{nat_tests, Decides-int_eq}
use Rattle.std.proofs.lemmas.Int.{ints, quot-rem, rem_below}
use Rattle.std.specs.Ordering.{int_eq}
use Rattle.std.specs.Int.{int_pow}
use Rattle.hph_num.specs.declared.fault.NumFault.TheVariants.{Overflow, DivZero, NotWhole}
use Rattle.hph_num.specs.Range.{fits_i64, within_i64}
use Rattle.hph_num.specs.Arithmetic.{sum_of, product_of, remainder_of, quotient_of}

-- a sum doesn't depend on the order
pub sum_of-comm : (a b : ℤ) → sum_of a b ≡ sum_of b a
sum_of-comm a b = ap within_i64 (+ℤ_comm a b)

-- nor does a product
pub product_of-comm : (a b : ℤ) → product_of a b ≡ product_of b a
product_of-comm a b = ap within_i64 (*ℤ_comm a b)

-- ---- a power is a product repeated

-- to the exponent 0 it is 1
pub int_pow-zero : (a : ℤ) → int_pow a 0 ≡ pos 1
int_pow-zero (pos a) = ap pos (pow-zero a)
int_pow-zero (negsuc a) = ap pos (pow-zero (suc a))

-- the product of two numbers, neither above 0
negated_by : (p a : ℕ) → neg_ℤ (pos p) *ℤ negsuc a ≡ pos (p * suc a)
negated_by zero a = rw zero-mul
negated_by (suc p) a = refl

-- a negative number's power to one more, by the parity
suc_power : (a p e : ℕ) (even : Bool) → (e % 2 == 0) ≡ even
    → cond (suc e % 2 == 0) (pos (p * suc a)) (neg_ℤ (pos (p * suc a))) ≡ cond even (pos p) (neg_ℤ (pos p)) *ℤ negsuc a
suc_power a p e true h = let odd : (suc e % 2 == 0) ≡ false = grind (arith, nat_tests) in rw odd
suc_power a p e false h = let even : (suc e % 2 == 0) ≡ true = grind (arith, nat_tests) in rw even (sym (negated_by p a))

-- to one more it has one factor more
pub int_pow-suc : (a : ℤ) (e : ℕ) → int_pow a (suc e) ≡ int_pow a e *ℤ a
int_pow-suc (pos a) e = ap pos (pow-suc a e)
int_pow-suc (negsuc a) e = rw (pow-suc (suc a) e) (suc_power a (suc a ^ e) e (e % 2 == 0) refl)

-- ---- quotients and remainders

-- an answer that was tested against the range is the number itself
within_i64-Ok : (z q : ℤ) (b : Bool) → (if b then Ok z else Err Overflow) ≡ Ok q → z ≡ q
within_i64-Ok z q true h = cc
within_i64-Ok z q false h = let no : ⊥ = cc in absurd no

-- an answer says that the remainder is it
rem_part : (a b r : ℤ) (by_zero : Bool) → (if by_zero then Err DivZero else Ok (int_rem a b)) ≡ Ok r → int_rem a b ≡ r
rem_part a b r true h = let no : ⊥ = cc in absurd no
rem_part a b r false h = cc

-- the remainder is what the quotient toward zero leaves
pub remainder_of-Ok : (a b r : ℤ) → remainder_of a b ≡ Ok r → int_div a b *ℤ b +ℤ r ≡ a
remainder_of-Ok a b r h = rw (← rem_part a b r (int_eq b (pos 0)) h) (quot-rem a b)

-- what isn't 0 has a size
nonzero : (b : ℤ) → int_eq b (pos 0) ≡ false → 0 < nat_abs b
nonzero (pos zero) h = let no : ⊥ = cc in absurd no
nonzero (pos (suc n)) h = omega arith
nonzero (negsuc n) h = omega arith

-- the same, by whether the divisor is 0
below_part : (a b r : ℤ) (by_zero : Bool) → int_eq b (pos 0) ≡ by_zero → (if by_zero then Err DivZero else Ok (int_rem a b)) ≡ Ok r → nat_abs r < nat_abs b
below_part a b r true is h = let no : ⊥ = cc in absurd no
below_part a b r false is h =
    let same : int_rem a b ≡ r = cc in
    rw (← same) (rem_below a b (nonzero b is))

-- and is smaller than the divisor
pub remainder_of-below : (a b r : ℤ) → remainder_of a b ≡ Ok r → nat_abs r < nat_abs b
remainder_of-below a b r h = below_part a b r (int_eq b (pos 0)) refl h

-- to add 0 changes nothing
add-zero_ℤ : (z : ℤ) → z +ℤ pos 0 ≡ z
add-zero_ℤ z = omega (arith, ints)

-- an answer says that there is no remainder, and that the quotient is it
quotient_part : (a b q : ℤ) (by_zero whole : Bool) → int_eq (int_rem a b) (pos 0) ≡ whole
    → (if by_zero then Err DivZero else (if whole then within_i64 (int_div a b) else Err NotWhole)) ≡ Ok q → (int_rem a b ≡ pos 0) × (int_div a b ≡ q)
quotient_part a b q true whole is_whole h = let no : ⊥ = cc in absurd no
quotient_part a b q false true is_whole h = ((Decides-int_eq (int_rem a b) (pos 0)).0 is_whole, within_i64-Ok (int_div a b) q (fits_i64 (int_div a b)) h)
quotient_part a b q false false is_whole h = let no : ⊥ = cc in absurd no

-- a quotient times its divisor is the dividend
pub quotient_of-Ok : (a b q : ℤ) → quotient_of a b ≡ Ok q → q *ℤ b ≡ a
quotient_of-Ok a b q h =
    let parts = quotient_part a b q (int_eq b (pos 0)) (int_eq (int_rem a b) (pos 0)) refl h in
    let whole : int_div a b *ℤ b +ℤ pos 0 ≡ a = rw parts.0 at (quot-rem a b) in
    rw (← parts.1) (sym (add-zero_ℤ (int_div a b *ℤ b)) ∙ whole)
