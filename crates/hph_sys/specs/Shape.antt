-- What a system of typing rules is, as plain data: scopes that ask types of cells. Source: this project's own.
use Rattle.std.specs.Prelude.{ℕ, ◌==◌, List, [], ◌∷◌, if◌then◌else◌}
use Rattle.hph_type.specs.Types.{PhpType, none}
use Rattle.hph_type.specs.Classes.{Parents}
use Rattle.hph_type.specs.Order.{join}
use Rattle.hph_sys.specs.Typings.{AreTypes}

-- Scopes and cells are numbered from 0. A scope owns cells, and looks at the owners of all cells that it reads or asks.
pub record Shape : Type 0 where
  pub scopes : ℕ
  pub cells : ℕ
  -- the scope that owns a cell
  pub owner : ℕ → ℕ
  -- the scopes that a scope looks at
  pub look : ℕ → List ℕ
  -- the scopes that read a cell
  pub readers : ℕ → List ℕ
  -- the pairs of a cell and a type that a scope asks, where the cells have these types
  pub contrib : ℕ → List PhpType → List (ℕ × PhpType)
  -- the tree of classes
  pub classes : Parents

-- One type per cell of the system, whose classes are its tree's.
abbrev pub IsTyping : Shape → List PhpType → Type 0
IsTyping sys typing = AreTypes sys.classes sys.cells typing

-- the join of the types that pairs have for a cell
abbrev pub asked_in : Parents → List (ℕ × PhpType) → ℕ → PhpType
asked_in classes [] cell = none
asked_in classes (pair ∷ pairs) cell =
    if pair.0 == cell then join classes pair.1 (asked_in classes pairs cell) else asked_in classes pairs cell

-- the type that a scope asks of a cell
unfoldable pub asked : Shape → ℕ → List PhpType → ℕ → PhpType
asked sys scope typing cell = asked_in sys.classes (sys.contrib scope typing) cell
