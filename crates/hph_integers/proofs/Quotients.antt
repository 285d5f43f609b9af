-- Quotients and remainders.
use Rattle.std.proofs.Common.{◌≡◌, ◌≢◌, ◌∙◌, ◌≤◌, ◌<◌, ◌-◌, ◌/◌, ◌%◌, ◌^◌, ℕ, zero, suc, Bool, true, false, Some, None, refl, sym, ap, subst, arith}
use Rattle.std.specs.Prelude.{ℤ, pos, negsuc, neg_ℤ, nat_lt, int_lt, int_div, int_rem, if◌then◌else◌}
use Rattle.std.specs.Int.{Width, CanDivide}
use Rattle.std.proofs.lemmas.Int.{of_z-to_z, to_z-of_z}
use native.Mathlib.Nat.{div-le_self}
use lib.Signed.{mag, mag_rem}
use mir.Val.{to_z, of_z, bits, hbits}
use Rattle.hph_wasm.specs.declared.instr.Sign.{Sign}
use Rattle.hph_wasm.specs.declared.instr.Sign.TheVariants.{Signed, Unsigned}
use Rattle.hph_wasm.specs.Integers.{signed, unsigned, quotient, remainder}
use Rattle.hph_integers.proofs.Signs.{signed_is, unsigned_is, mag_signed, yes, is_less, half}

pub no_quotient : (sign : Sign) (n i j : ℕ) → j ≡ 0 → None ≡ quotient sign n i j
unfolding quotient
no_quotient sign n i zero e = refl
no_quotient sign n i (suc j) e = absurd (omega arith)

pub no_remainder : (sign : Sign) (n i j : ℕ) → j ≡ 0 → None ≡ remainder sign n i j
unfolding remainder
no_remainder sign n i zero e = refl
no_remainder sign n i (suc j) e = absurd (omega arith)

pub quotient_unsigned : (n i j : ℕ) → (j ≢ 0) → Some (i / j) ≡ quotient Unsigned n i j
unfolding quotient
quotient_unsigned n i zero h = absurd (h refl)
quotient_unsigned n i (suc j) h = refl

pub remainder_unsigned : (n i j : ℕ) → (j ≢ 0) → Some (i % j) ≡ remainder Unsigned n i j
unfolding remainder
remainder_unsigned n i zero h = absurd (h refl)
remainder_unsigned n i (suc j) h = refl

mag_below : (z : ℤ) (h : ℕ) → mag z < h → int_lt z (pos h) ≡ true
mag_below (pos n) h p = is_less n h p
mag_below (negsuc n) h p = refl

mag_neg : (r a : ℕ) → r ≤ suc a → mag (neg_ℤ (pos r)) ≤ a
mag_neg zero a h = omega arith
mag_neg (suc r) a h = omega arith

below_mag : (n h : ℕ) → nat_lt n h ≡ true → n < h
below_mag n h e = grind arith

-- A quotient of numbers that fit fits too, unless it is too large.
quotient_fits : (x y : ℤ) (h : ℕ) → mag x < h → int_lt (int_div x y) (pos h) ≡ true → mag (int_div x y) < h
quotient_fits (pos a) (pos b) h p e = below_mag (a / b) h e
quotient_fits (pos a) (negsuc b) h p e =
    let few = div-le_self a (suc b) in let small = mag_neg (a / suc b) a (omega arith) in omega arith
quotient_fits (negsuc a) (pos b) h p e =
    let few = div-le_self (suc a) b in let small = mag_neg (suc a / b) a (omega arith) in omega arith
quotient_fits (negsuc a) (negsuc b) h p e = below_mag (suc a / suc b) h e

quotient_of : (n i j : ℕ) (q : ℤ) → (j ≢ 0) → int_div (signed n i) (signed n j) ≡ q →
    quotient Signed n i j ≡ (if int_lt q (pos (2 ^ (n - 1))) then Some (unsigned n q) else None)
unfolding quotient
quotient_of n i zero q h e = absurd (h refl)
quotient_of n i (suc j) q h e = ap (λ q. if int_lt q (pos (2 ^ (n - 1))) then Some (unsigned n q) else None) e

divided : (w : Width) (i j : ℕ) → i < 2 ^ bits w → j < 2 ^ bits w →
    int_div (signed (bits w) i) (signed (bits w) j) ≡ int_div (to_z w i) (to_z w j)
divided w i j hi hj = ap (λ x. int_div x (signed (bits w) j)) (signed_is w i hi) ∙ ap (λ y. int_div (to_z w i) y) (signed_is w j hj)

pub quotient_is : (w : Width) (i j n : ℕ) (x y q : ℤ) → i < 2 ^ bits w → j < 2 ^ bits w → (j ≢ 0) → x ≡ to_z w i → y ≡ to_z w j →
    q ≡ int_div x y → mag (int_div x y) < 2 ^ hbits w → n ≡ of_z w (to_z w (of_z w q)) → Some n ≡ quotient Signed (bits w) i j
quotient_is w i j n x y q hi hj h ex ey e fit cast =
    let same : int_div x y ≡ int_div (to_z w i) (to_z w j) = ap (λ x. int_div x y) ex ∙ ap (λ y. int_div (to_z w i) y) ey in
    let fits : mag q < 2 ^ hbits w = subst (λ z. mag z < 2 ^ hbits w) (sym e) fit in
    let test : int_lt q (pos (2 ^ (bits w - 1))) ≡ true = ap (λ k. int_lt q (pos (2 ^ k))) (half w) ∙ mag_below q (2 ^ hbits w) fits in
    ap Some (cast ∙ ap (of_z w) (to_z-of_z w q (record { sfits = fits }))) ∙
    sym (quotient_of (bits w) i j q h (divided w i j hi hj ∙ (sym same ∙ sym e)) ∙
    (yes (int_lt q (pos (2 ^ (bits w - 1)))) (Some (unsigned (bits w) q)) None test ∙ ap Some (unsigned_is w q fits)))

too_large : (b : Bool) {A : Type 0} (x y : A) → (b ≡ true → ⊥) → y ≡ (if b then x else y)
too_large true x y h = absurd (h refl)
too_large false x y h = refl

pub no_quotient_is : (w : Width) (i j : ℕ) (x y : ℤ) → i < 2 ^ bits w → j < 2 ^ bits w → (j ≢ 0) → x ≡ to_z w i → y ≡ to_z w j →
    (CanDivide w x y → ⊥) → None ≡ quotient Signed (bits w) i j
no_quotient_is w i j x y hi hj h ex ey wide =
    let q : ℤ = int_div (to_z w i) (to_z w j) in
    let same : int_div x y ≡ q = ap (λ x. int_div x y) ex ∙ ap (λ y. int_div (to_z w i) y) ey in
    let some : 0 < of_z w y = subst (λ n. 0 < n) (sym (ap (of_z w) ey ∙ of_z-to_z w j hj)) (omega arith) in
    too_large (int_lt q (pos (2 ^ (bits w - 1)))) (Some (unsigned (bits w) q)) None
    (λ e. wide (
      some,
      record {
        sfits = subst (λ z. mag z < 2 ^ hbits w) (sym same)
            (quotient_fits (to_z w i) (to_z w j) (2 ^ hbits w) (mag_signed w i hi) (ap (λ k. int_lt q (pos (2 ^ k))) (sym (half w)) ∙ e));
      },
    )) ∙
    sym (quotient_of (bits w) i j q h (divided w i j hi hj))

remainder_of : (n i j : ℕ) (r : ℤ) → (j ≢ 0) → int_rem (signed n i) (signed n j) ≡ r → remainder Signed n i j ≡ Some (unsigned n r)
unfolding remainder
remainder_of n i zero r h e = absurd (h refl)
remainder_of n i (suc j) r h e = ap (λ r. Some (unsigned n r)) e

pub remainder_is : (w : Width) (i j n : ℕ) (x y r : ℤ) → i < 2 ^ bits w → j < 2 ^ bits w → (j ≢ 0) → x ≡ to_z w i → y ≡ to_z w j →
    r ≡ int_rem x y → n ≡ of_z w (to_z w (of_z w r)) → Some n ≡ remainder Signed (bits w) i j
remainder_is w i j n x y r hi hj h ex ey e0 cast =
    let e : r ≡ int_rem (to_z w i) (to_z w j) = e0 ∙ (ap (λ x. int_rem x y) ex ∙ ap (λ y. int_rem (to_z w i) y) ey) in
    let rest : int_rem (signed (bits w) i) (signed (bits w) j) ≡ r =
    ap (λ x. int_rem x (signed (bits w) j)) (signed_is w i hi) ∙ (ap (λ y. int_rem (to_z w i) y) (signed_is w j hj) ∙ sym e) in
    let few : mag r ≤ mag (to_z w i) = subst (λ z. mag z ≤ mag (to_z w i)) (sym e) (mag_rem (to_z w i) (to_z w j)) in
    let fits : mag r < 2 ^ hbits w = let all = mag_signed w i hi in omega arith in
    ap Some (cast ∙ ap (of_z w) (to_z-of_z w r (record { sfits = fits }))) ∙
    sym (remainder_of (bits w) i j r h rest ∙ ap Some (unsigned_is w r fits))
