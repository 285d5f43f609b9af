-- Raises of cells, and their number. Source: this project's own.
use Rattle.std.specs.Prelude.{◌≡◌, ℕ, zero, suc, ◌<◌, ◌^◌, ◌-◌, List, slice_set, min}
use Rattle.hph_type.specs.Types.{PhpType}
use Rattle.hph_type.specs.Order.{Leq, IsOf, join}
use Rattle.hph_sys.specs.Typings.{at}
use Rattle.hph_sys.specs.Shape.{Shape, asked}

-- M is L but for one cell, whose type isn't above a type that is below what some scope asks of it: M has their join there.
pub record IsRaise (sys : Shape) (L M : List PhpType) : Type 0 where
  pub scope : ℕ
  pub cell : ℕ
  pub type : PhpType
  pub scope_in : scope < sys.scopes
  pub cell_in : cell < sys.cells
  pub typed : IsOf sys.classes type
  pub asks : Leq sys.classes type (asked sys scope L cell)
  pub unmet : ¬ Leq sys.classes type (at L cell)
  pub risen : M ≡ slice_set L cell (join sys.classes (at L cell) type)

-- So many raises lead from K to M.
abbrev pub Raises : Shape → ℕ → List PhpType → List PhpType → Type 0
Raises sys zero K M = M ≡ K
Raises sys (suc n) K M = (L : List PhpType) × Raises sys n K L × IsRaise sys L M

-- A number of 64 bits tells how many raises lead from K to M. The greatest stands for as many or more.
pub record RaisedBy (sys : Shape) (told : ℕ) (K M : List PhpType) : Type 0 where
  pub times : ℕ
  pub raises : Raises sys times K M
  pub told_is : told ≡ min times (2 ^ 64 - 1)
