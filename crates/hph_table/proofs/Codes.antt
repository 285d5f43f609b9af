-- Words and numbers: bits as truth values, types as words, hands as scopes.
use Rattle.std.proofs.Common.{◌≡◌, ◌≢◌, ℕ, ◌+◌, ◌-◌, ◌*◌, ◌/◌, ◌%◌, ◌^◌, ◌<◌, ◌≤◌, eqb, Bool, true, false, not, cond, Option, None, Some, sym, refl, ap, subst, ◌∙◌, arith, eq-eqb, ne_eqb, bit_and, lit<}
use Rattle.std.specs.Int.{bit_at, bit_not, trailing_zeros}
use mir.Syntax.{w64}
use Rattle.hph_core.specs.Effects.{mask}
use Rattle.std.proofs.lemmas.Nat.{div-add-mod'}
use Rattle.std.proofs.Math.Nat.{mod-lt}
use Rattle.std.proofs.lemmas.Nat.Bits.{bit_at-lt, shr_and_one, bit_at-pow_same, bit_at-pow_other, bit_at-trailing_zeros, bit_at_set_same, bit_at_set_other, bit_at-zero}
use mathlib.Core.Logic.{dite}
use native.Mathlib.Decide.{ℕ_discrete}
use Rattle.hph_type.specs.Types.{PhpType}
use Rattle.hph_type.specs.Classes.{Parents}
use Rattle.hph_type.specs.Order.{IsOf}
use Rattle.hph_type.specs.Codes.{code}
use Rattle.hph_type.proofs.CodeLaws.{types_have_codes}
use Rattle.hph_table.specs.Words.{type_or_none}
pub use Rattle.hph_table.specs.Words.{decode}
use Rattle.hph_core.specs.Rule.{one_if}

-- A type of the tree is told by its code.
pub of_code_code : (tree : Parents) (t : PhpType) → IsOf tree t → decode (code t) ≡ t
of_code_code tree t is = ap type_or_none ((types_have_codes tree).told t is)

pub of_word : (tree : Parents) (t : PhpType) (n : ℕ) → n ≡ code t → IsOf tree t → decode n ≡ t
of_word tree t n e is = ap decode e ∙ of_code_code tree t is

-- the test of the bit k of n
pub set_is : (n k : ℕ) → one_if (eqb (bit_and (n / 2 ^ k) 1) 1) ≡ bit_at n k
set_is n k = let e = shr_and_one n k in let l = bit_at-lt n k in
    dite (ℕ_discrete (bit_at n k) 1)
    (λ y. ap one_if (eq-eqb (bit_and (n / 2 ^ k) 1) 1 (e ∙ y)) ∙ sym y)
    (λ m. ap one_if (ne_eqb (bit_and (n / 2 ^ k) 1) 1 (λ z. m (sym e ∙ z))) ∙ (let q : 0 ≡ bit_at n k = omega arith in q))

pub clear_is : (n k : ℕ) → 1 - one_if (eqb (bit_and (n / 2 ^ k) 1) 0) ≡ bit_at n k
clear_is n k = let e = shr_and_one n k in let l = bit_at-lt n k in
    dite (ℕ_discrete (bit_at n k) 0)
    (λ y. ap (λ (b : Bool). 1 - one_if b) (eq-eqb (bit_and (n / 2 ^ k) 1) 0 (e ∙ y)) ∙ sym y)
    (λ m. ap (λ (b : Bool). 1 - one_if b) (ne_eqb (bit_and (n / 2 ^ k) 1) 0 (λ z. m (sym e ∙ z))) ∙ (let q : 1 ≡ bit_at n k = omega arith in q))

pub not_clear_is : (n k : ℕ) → not (eqb (bit_and (n / 2 ^ k) 1) 0) ≡ eqb (bit_at n k) 1
not_clear_is n k = let e = shr_and_one n k in let l = bit_at-lt n k in
    dite (ℕ_discrete (bit_at n k) 1)
    (λ y. ap not (ne_eqb (bit_and (n / 2 ^ k) 1) 0 (λ z. let w : 1 ≡ 0 = sym y ∙ (sym e ∙ z) in omega arith)) ∙ sym (eq-eqb (bit_at n k) 1 y))
    (λ m. ap not (eq-eqb (bit_and (n / 2 ^ k) 1) 0 (e ∙ (let q : bit_at n k ≡ 0 = omega arith in q))) ∙ sym (ne_eqb (bit_at n k) 1 m))

by_case : (b d : Bool) → d ≡ true → cond b d false ≡ b
by_case true d e = e
by_case false d e = refl

-- the debt after a mark
pub mark_debt : (bit : ℕ) → (d : Bool) → d ≡ true → cond (eqb bit 1) d false ≡ eqb bit 1
mark_debt bit d e = by_case (eqb bit 1) d e

pos_of : (n : ℕ) → n ≢ 0 → 0 < n
pos_of n h = omega arith

sum_is : (s q r t : ℕ) → t ≡ r → q * 64 + r ≡ s → 64 * q + t ≡ s
sum_is s q r t e d = omega arith

back : (m : ℕ) → m < 2 ^ 64 → 2 ^ 64 - 1 - (2 ^ 64 - 1 - m) ≡ m
back m h = omega arith

-- the one bit of a mask is the scope's
mask_here : (s : ℕ) → bit_at (mask s) (s % 64) ≡ 1
mask_here s = bit_at_set_same w64 0 (s % 64) (mod-lt s (lit< tt))

mask_away : (s i : ℕ) → i ≢ s % 64 → bit_at (mask s) i ≡ 0
mask_away s i n = bit_at_set_other w64 0 (s % 64) (mod-lt s (lit< tt)) i n ∙ bit_at-zero i

mask_some : (s : ℕ) → 0 < mask s
mask_some s = dite (ℕ_discrete (mask s) 0) (λ e. absurd (let x : bit_at (mask s) (s % 64) ≡ 0 = ap (λ (n : ℕ). bit_at n (s % 64)) e ∙ bit_at-zero (s % 64) in let y = mask_here s in let z : 1 ≡ 0 = sym y ∙ x in omega arith)) (λ n. pos_of (mask s) n)

mask_small : (s : ℕ) → mask s < 2 ^ 64
mask_small s = mod-lt (1 * 2 ^ (s % 64)) (lit< tt)

lowest : (s : ℕ) → trailing_zeros w64 (mask s) ≡ s % 64
lowest s = let t = bit_at-trailing_zeros w64 (mask s) (mask_some s) (mask_small s) in
    dite (ℕ_discrete (trailing_zeros w64 (mask s)) (s % 64)) (λ e. e) (λ n. absurd (let z : 1 ≡ 0 = sym t.1 ∙ mask_away s (trailing_zeros w64 (mask s)) n in omega arith))

pub scope_of_set : (s : ℕ) → 64 * (s / 64) + trailing_zeros w64 (mask s) ≡ s
scope_of_set s = let t : ℕ = trailing_zeros w64 (mask s) in let e : t ≡ s % 64 = lowest s in let d = div-add-mod' s 64 in sum_is s (s / 64) (s % 64) t e d

not_not : (m : ℕ) → m < 2 ^ 64 → bit_not w64 (bit_not w64 m) ≡ m
not_not m h = back m h

pub scope_of_clear : (s : ℕ) → 64 * (s / 64) + trailing_zeros w64 (bit_not w64 (bit_not w64 (mask s))) ≡ s
scope_of_clear s = ap (λ (n : ℕ). 64 * (s / 64) + trailing_zeros w64 n) (not_not (mask s) (mask_small s)) ∙ scope_of_set s
