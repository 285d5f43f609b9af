-- The first of a list that something doesn't hold of.
use Rattle.std.specs.Prelude.{◌≡◌, ℕ, List, take, Bool, true, false, Option, Some, None, slice_get}
use Rattle.std.specs.List.{AllByRecursion}

-- Something is tested.
abbrev pub Tests : {X : Type 0} → (X → Type 0) → X → Bool → Type 0
Tests P x true = P x
Tests P x false = P x → ⊥

-- This is the first at which it fails.
pub record FailsFirst {X : Type 0} (P : X → Type 0) (xs : List X) (k : ℕ) : Type 0 where
  pub item : X
  pub there : slice_get xs k ≡ Some item
  pub fails : P item → ⊥
  pub before : AllByRecursion P (take k xs)

-- The first is told, or that it holds of all.
abbrev pub FirstTold : {X : Type 0} → (X → Type 0) → List X → Option ℕ → Type 0
FirstTold P xs (Some k) = FailsFirst P xs k
FirstTold P xs None = AllByRecursion P xs
