-- Fronts that stand one behind the other.
use Rattle.std.proofs.Common.{◌≡◌, ℕ, List, ap, ◌∙◌, subst}
use Rattle.hph_scan.specs.Fronts.{Spells}

module _ {A : Type 0} {Is : List ℕ → A → List ℕ → Type 0} where
  pub Spells-then : {bs cs ds : List ℕ} {f g : A → A} → Spells Is bs cs f → Spells Is cs ds g → Spells Is bs ds (λ more. f (g more))
  Spells-then {f = f} {g = g} one two = record {
    onward = λ more rest is. one.onward (g more) rest (two.onward more rest is);
    back = λ all rest is.
        let first = one.back all rest is in
        let second = two.back first.0 rest first.2 in
        (second.0, first.1 ∙ ap f second.1, second.2);
  }

  pub Spells-same : {bs cs : List ℕ} {f g : A → A} → Spells Is bs cs f → ((more : A) → f more ≡ g more) → Spells Is bs cs g
  Spells-same {bs} {cs} {f} {g} one same = record {
    onward = λ more rest is. subst (λ all. Is bs all rest) (same more) (one.onward more rest is);
    back = λ all rest is. let first = one.back all rest is in (first.0, first.1 ∙ same first.0, first.2);
  }
