-- The work set's bits: what one scope's bit becomes, and that the others stay.
use Rattle.std.proofs.Common.{◌≡◌, ◌≢◌, ℕ, zero, suc, ◌<◌, ◌≤◌, ◌+◌, ◌-◌, ◌*◌, ◌/◌, ◌%◌, ◌^◌, List, length, get_or, set, sym, refl, ap, subst, ◌∙◌, inl, inr, ◌⊎◌, arith, get_or-set_same, get_or-set_other, lit<}
use Rattle.std.proofs.lemmas.Nat.{div-add-mod'}
use Rattle.std.proofs.Math.Nat.{mod-lt}
use Rattle.std.proofs.lemmas.Nat.Bits.{bit_at-lt, bit_at_set_same, bit_at_set_other, bit_at_clear_same, bit_at_clear_other}
use Rattle.std.specs.Int.{bit_at}
use mathlib.Core.Logic.{dite}
use native.Mathlib.Decide.{ℕ_discrete}
use mir.Syntax.{w64}
use Rattle.hph_core.specs.State.{member_of}
use Rattle.hph_core.specs.Effects.{word_with, word_without}
use Rattle.hph_core.proofs.Lists.{Changed}

module _ (work : List ℕ) (s : ℕ) (word_in : s / 64 < length work) where
  low : (j : ℕ) → j % 64 < 64
  low j = mod-lt j (lit< tt)

  parts : (j : ℕ) → j / 64 ≡ s / 64 → j % 64 ≡ s % 64 → j ≡ s
  parts j a b = let x = div-add-mod' j 64 in let y = div-add-mod' s 64 in omega arith

  bits_change : (n x : ℕ) → bit_at n (s % 64) ≡ x → ((i : ℕ) → i < 64 → i ≢ s % 64 → bit_at n i ≡ bit_at (get_or work (s / 64) 0) i) → Changed (member_of work) (member_of (set work (s / 64) n)) s x
  bits_change n x here there = record {
    here = ap (λ (m : ℕ). bit_at m (s % 64)) (get_or-set_same work (s / 64) n 0 word_in) ∙ here;
    away = λ j ne. dite (ℕ_discrete (j / 64) (s / 64))
        (λ e. ap (λ (k : ℕ). bit_at (get_or (set work (s / 64) n) k 0) (j % 64)) e
        ∙ (ap (λ (m : ℕ). bit_at m (j % 64)) (get_or-set_same work (s / 64) n 0 word_in)
        ∙ (there (j % 64) (low j) (λ b. ne (parts j e b)) ∙ ap (λ (k : ℕ). bit_at (get_or work k 0) (j % 64)) (sym e))))
        (λ d. ap (λ (m : ℕ). bit_at m (j % 64)) (get_or-set_other work (s / 64) (j / 64) n 0 d));
  }

  pub bit_clears : Changed (member_of work) (member_of (set work (s / 64) (word_without (get_or work (s / 64) 0) s))) s 0
  bit_clears = let n = get_or work (s / 64) 0 in bits_change (word_without n s) 0 (bit_at_clear_same w64 n (s % 64) (low s)) (λ i l ne. bit_at_clear_other w64 n (s % 64) (low s) i l ne)

  pub bit_sets : Changed (member_of work) (member_of (set work (s / 64) (word_with (get_or work (s / 64) 0) s))) s 1
  bit_sets = let n = get_or work (s / 64) 0 in bits_change (word_with n s) 1 (bit_at_set_same w64 n (s % 64) (low s)) (λ i l ne. bit_at_set_other w64 n (s % 64) (low s) i ne)

pub member_small : (work : List ℕ) (s : ℕ) → member_of work s < 2
member_small work s = bit_at-lt (get_or work (s / 64) 0) (s % 64)
