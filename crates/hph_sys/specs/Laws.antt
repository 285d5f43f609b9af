-- What the definitions of this crate are worth. The functions of src/laws.rt show these.
use Rattle.std.specs.Prelude.{◌≡◌, ℕ, ◌<◌, ◌↔◌, List}
use Rattle.hph_type.specs.Types.{PhpType}
use Rattle.hph_type.specs.Classes.{Parents}
use Rattle.hph_type.specs.Order.{Leq, IsOf}
use Rattle.hph_sys.specs.Typings.{In, at}
use Rattle.hph_sys.specs.Shape.{Shape, asked_in, asked}
use Rattle.hph_sys.specs.Least.{IsMet, IsSolution}

-- What pairs ask of a cell is their least upper bound there.
pub record AskedIsLeast (classes : Parents) (pairs : List (ℕ × PhpType)) : Type 0 where
  pub above : (pair : ℕ × PhpType) → In pair pairs → Leq classes pair.1 (asked_in classes pairs pair.0)
  pub least : (cell : ℕ) (upper : PhpType)
      → ((pair : ℕ × PhpType) → In pair pairs → pair.0 ≡ cell → Leq classes pair.1 upper)
      → Leq classes (asked_in classes pairs cell) upper

-- A scope's pairs are met exactly where what it asks of each cell is below the cell's type.
abbrev pub MetByAsked : Shape → List PhpType → ℕ → Type 0
MetByAsked sys typing scope =
    IsMet sys typing scope ↔ ((cell : ℕ) → Leq sys.classes (asked sys scope typing cell) (at typing cell))

-- A typing is, cell by cell, the meet of all solutions, and a solution itself.
pub record IsMeetOfSolutions (sys : Shape) (typing : List PhpType) : Type 0 where
  pub solution : IsSolution sys typing
  pub below : (solution : List PhpType) → IsSolution sys solution → (cell : ℕ)
      → Leq sys.classes (at typing cell) (at solution cell)
  pub greatest : (cell : ℕ) (lower : PhpType) → cell < sys.cells → IsOf sys.classes lower
      → ((solution : List PhpType) → IsSolution sys solution → Leq sys.classes lower (at solution cell))
      → Leq sys.classes lower (at typing cell)
