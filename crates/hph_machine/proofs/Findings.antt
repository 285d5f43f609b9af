-- What the last try met, one finding further.
use Rattle.std.proofs.Common.{◌≡◌, ◌≢◌, ℕ, Bool, List, [], ◌∷◌, ◌++◌, map, Option, None, sym, refl, ap, ◌∙◌}
use denote.Bor.{Bor}
use Rattle.std.proofs.lemmas.List.{map-append}
use Rattle.hph_core.specs.declared.view.Finding.{Finding}
use Rattle.hph_core.specs.declared.view.Finding.TheVariants.{Peeked, Took, Marked, PutBack, Got, Busy, Released, Seen, Raised, Added, Paid, Done, Pending}
use Rattle.hph_core.specs.Conditions.{met_after, last_met}

met_append : (m : Option (ℕ × ℕ)) (fs : List Finding) (f : Finding) → last_met m (fs ++ f ∷ []) ≡ met_after (last_met m fs) f
met_append m [] f = refl
met_append m (g ∷ fs) f = met_append (met_after m g) fs f

pub met_seen : (m : Option (ℕ × ℕ)) (fs : List (Bor Finding)) (f : Bor Finding) → m ≡ last_met None (map (λ b. b.now) fs) → met_after m f.now ≡ last_met None (map (λ b. b.now) (fs ++ f ∷ []))
met_seen m fs f was = ap (λ m. met_after m f.now) was ∙ sym (ap (last_met None) (map-append (λ (b : Bor Finding). b.now) fs (f ∷ [])) ∙ met_append None (map (λ b. b.now) fs) f.now)

-- findings of another kind change nothing
pub met_other : (m : Option (ℕ × ℕ)) (f : Finding) → ((s : ℕ) (b : Bool) → f ≢ Took s b) → ((d : ℕ) → f ≢ Got d) → ((d h : ℕ) → f ≢ Busy d h) → met_after m f ≡ m
met_other m (Peeked j n) a b c = refl
met_other m (Took s t) a b c = absurd (a s t refl)
met_other m (Marked r t) a b c = refl
met_other m (PutBack s t) a b c = refl
met_other m (Got d) a b c = absurd (b d refl)
met_other m (Busy d h) a b c = absurd (c d h refl)
met_other m (Released d) a b c = refl
met_other m (Seen x t) a b c = refl
met_other m (Raised x t) a b c = refl
met_other m Added a b c = refl
met_other m Paid a b c = refl
met_other m (Done s) a b c = refl
met_other m (Pending n) a b c = refl
