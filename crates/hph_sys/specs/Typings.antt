-- Typings: a type per cell. Source: this project's own.
use Rattle.std.specs.Prelude.{◌≡◌, ◌⊎◌, ℕ, List, [], ◌∷◌, length, slice_index_or}
use Rattle.hph_type.specs.Types.{PhpType, none}
use Rattle.hph_type.specs.Classes.{Parents}
use Rattle.hph_type.specs.Order.{Leq, IsOf}

-- Something stands in a list.
abbrev pub In : {A : Type 0} → A → List A → Type 0
In x [] = ⊥
In x (y ∷ ys) = (x ≡ y) ⊎ In x ys

-- the type of a cell, the empty type where there is no cell
abbrev pub at : List PhpType → ℕ → PhpType
at typing cell = slice_index_or typing cell none

-- One type per cell, whose classes are the tree's.
pub record AreTypes (classes : Parents) (cells : ℕ) (typing : List PhpType) : Type 0 where
  pub len : length typing ≡ cells
  pub types : (cell : ℕ) → IsOf classes (at typing cell)

-- One typing is below another, cell by cell.
abbrev pub Below : Parents → List PhpType → List PhpType → Type 0
Below classes lower upper = (cell : ℕ) → Leq classes (at lower cell) (at upper cell)
