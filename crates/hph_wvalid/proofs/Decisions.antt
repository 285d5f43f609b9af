-- Tests that pass just where a fact holds.
use Rattle.std.proofs.Common.{◌≡◌, ◌∙◌, Bool, true, false, refl, ap}
use Rattle.std.specs.Prelude.{◌&&◌}

-- A test passes just where a fact holds.
abbrev pub Tells : Bool → Type 0 → Type 0
Tells b P = (b ≡ true → P) × (P → b ≡ true)

pub and_true : (a b : Bool) → (a && b) ≡ true → (a ≡ true) × (b ≡ true)
and_true true b e = (refl, e)
and_true false b e = let no : ⊥ = cc in absurd no

pub true_and : (a b : Bool) → a ≡ true → b ≡ true → (a && b) ≡ true
true_and a b p q = ap (λ a. a && b) p ∙ q
