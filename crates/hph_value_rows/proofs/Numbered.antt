-- No operator has a code past 32 bits.
use Rattle.std.proofs.Common.{◌≡◌, ◌≤◌, ◌<◌, ◌^◌, ◌==◌, ℕ, Bool, true, false, cond, List, [], ◌∷◌, Option, None, Some, refl, ap, subst, arith, ◌∙◌}
use Rattle.std.proofs.lemmas.Bool.{ne_eqb}
use Rattle.std.proofs.lemmas.Bool.Decides.{nat_tests}
use Rattle.std.specs.Prelude.{find, nat_lt, ◌&&◌}
use Rattle.std.specs.List.{list_all}
use Rattle.hph_php.specs.Codes.{binary_code, binary_with, binary_operators, unary_code, unary_with, unary_operators, fatal_code, fatal_with, all_fatals}

module _ {A : Type 0} (code_of : A → ℕ) where
  both : (a b : Bool) → (a && b) ≡ true → (a ≡ true) × (b ≡ true)
  both true b is = (refl, is)
  both false b is = let none : ⊥ = cc in absurd none

  other : (x : A) (code : ℕ) → nat_lt (code_of x) 100 ≡ true → 100 ≤ code → (code_of x == code) ≡ false
  other x code small large = ne_eqb (code_of x) code (λ e. absurd (grind (arith, nat_tests, small, large, e)))

  none_at : (xs : List A) (code : ℕ) → list_all (λ x. nat_lt (code_of x) 100) xs ≡ true → 100 ≤ code → find (λ x. code_of x == code) xs ≡ None
  none_at [] code small large = refl
  none_at (x ∷ xs) code small large =
      let (first, rest) = both (nat_lt (code_of x) 100) (list_all (λ y. nat_lt (code_of y) 100) xs) small in
      ap (λ b. cond b (Some x) (find (λ y. code_of y == code) xs)) (other x code first large) ∙ none_at xs code rest large

past : (code : ℕ) → 2 ^ 32 ≤ code → 100 ≤ code
past code large = omega (arith, large)

pub no_binary : (code : ℕ) → 2 ^ 32 ≤ code → binary_with code ≡ None
unfolding binary_operators
no_binary code large = none_at binary_code binary_operators code refl (past code large)

pub no_unary : (code : ℕ) → 2 ^ 32 ≤ code → unary_with code ≡ None
unfolding unary_operators
no_unary code large = none_at unary_code unary_operators code refl (past code large)
