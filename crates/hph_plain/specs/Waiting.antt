-- Which scopes wait: a flag for each. Source: this project's own.
use Rattle.std.specs.Prelude.{◌≡◌, ◌==◌, ◌+◌, ◌↔◌, ◌⊎◌, ℕ, Bool, false, List, [], ◌∷◌, length, slice_index_or, IsTrue, if◌then◌else◌}
use Rattle.hph_sys.specs.Typings.{In}

-- whether a scope waits
abbrev pub waits : List Bool → ℕ → Bool
waits waiting scope = slice_index_or waiting scope false

-- 1 for what is true
abbrev pub one_if : Bool → ℕ
one_if is = if is then 1 else 0

-- how often a scope stands in a list
abbrev pub times : List ℕ → ℕ → ℕ
times [] scope = 0
times (first ∷ rest) scope = one_if (first == scope) + times rest scope

-- Each scope that waits stands in the list once, and no other does.
abbrev pub StandOnce : List Bool → List ℕ → Type 0
StandOnce waiting stack = (scope : ℕ) → times stack scope ≡ one_if (waits waiting scope)

-- The readers wait, and those that did before.
pub record Wakes (readers : List ℕ) (old new : List Bool) : Type 0 where
  pub len : length new ≡ length old
  pub each : (scope : ℕ) → IsTrue (waits new scope) ↔ (IsTrue (waits old scope) ⊎ In scope readers)
