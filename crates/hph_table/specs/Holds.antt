-- The answer of a try.
use Rattle.std.specs.Prelude.{◌≡◌, ◌≢◌, ℕ, ◌<◌, List, [], ◌∷◌, ◌++◌}
use Rattle.hph_core.specs.declared.view.View.{View}
use Rattle.hph_core.specs.declared.view.Finding.TheVariants as finding
use Rattle.hph_core.specs.declared.event.Hold.{Hold}
use Rattle.hph_core.specs.declared.event.Hold.TheVariants.{Got, Busy}

abbrev pub got : View → ℕ → View
got v d = record v { holds = d ∷ v.holds; findings = v.findings ++ finding.Got d ∷ [] }

abbrev pub busy : View → ℕ → ℕ → View
busy v d h = record v { findings = v.findings ++ finding.Busy d h ∷ [] }

-- Got: the seat holds d. Busy: the one exchange found another seat there, and nothing else changed
abbrev pub Tried : View → ℕ → Hold → View → Type 0
Tried v d Got w = w ≡ got v d
Tried v d (Busy h) w = (w ≡ busy v d h) × (h ≢ v.number) × (h < 64)
