-- How far a run has come: typings below every solution, in which each scope waits or is met. Source: this project's own.
use Rattle.std.specs.Prelude.{◌≡◌, ◌≢◌, ◌<◌, ◌+◌, ◌-◌, ◌*◌, ◌⊎◌, ℕ, Bool, List, length, sum_by, IsTrue}
use Rattle.hph_type.specs.Types.{PhpType}
use Rattle.hph_type.specs.Classes.{height}
use Rattle.hph_type.specs.Rank.{rank}
use Rattle.hph_sys.specs.Typings.{Below}
use Rattle.hph_sys.specs.Shape.{Shape, IsTyping}
use Rattle.hph_sys.specs.Least.{IsMet, IsSolution}
use Rattle.hph_plain.specs.Waiting.{waits, one_if}

-- A typing is below every solution.
pub record IsLow (sys : Shape) (typing : List PhpType) : Type 0 where
  pub is_typing : IsTyping sys typing
  pub below : (solution : List PhpType) → IsSolution sys solution → Below sys.classes typing solution

-- Each scope waits or is met.
pub record Runs (sys : Shape) (typing : List PhpType) (waiting : List Bool) : Type 0 where
  pub low : IsLow sys typing
  pub len : length waiting ≡ sys.scopes
  pub each : (scope : ℕ) → scope < sys.scopes → IsTrue (waits waiting scope) ⊎ IsMet sys typing scope

-- Each scope but one waits or is met.
pub record RunsBut (sys : Shape) (one : ℕ) (typing : List PhpType) (waiting : List Bool) : Type 0 where
  pub low : IsLow sys typing
  pub len : length waiting ≡ sys.scopes
  pub others : (scope : ℕ) → scope < sys.scopes → scope ≢ one → IsTrue (waits waiting scope) ⊎ IsMet sys typing scope

-- how far the cells can rise
unfoldable pub slack : Shape → List PhpType → ℕ
slack sys typing = sys.cells * height sys.classes - sum_by (rank sys.classes) typing

-- at most how many turns there are: the scopes that wait, and all of them for each rise of a cell
unfoldable pub left : Shape → List PhpType → List Bool → ℕ
left sys typing waiting = slack sys typing * (sys.scopes + 1) + sum_by one_if waiting
