-- Solutions and the least typing. Source: this project's own.
use Rattle.std.specs.Prelude.{ℕ, ◌<◌, List}
use Rattle.hph_type.specs.Types.{PhpType}
use Rattle.hph_type.specs.Order.{Leq}
use Rattle.hph_sys.specs.Typings.{In, at, Below}
use Rattle.hph_sys.specs.Shape.{Shape, IsTyping}

-- Each pair that a scope asks is met: its type is below the cell's.
abbrev pub IsMet : Shape → List PhpType → ℕ → Type 0
IsMet sys typing scope =
    (pair : ℕ × PhpType) → In pair (sys.contrib scope typing) → Leq sys.classes pair.1 (at typing pair.0)

-- A solution is a typing that meets what every scope asks.
pub record IsSolution (sys : Shape) (typing : List PhpType) : Type 0 where
  pub is_typing : IsTyping sys typing
  pub met : (scope : ℕ) → scope < sys.scopes → IsMet sys typing scope

-- The least typing is below every solution, and above every typing that is.
pub record IsLeast (sys : Shape) (typing : List PhpType) : Type 0 where
  pub is_typing : IsTyping sys typing
  pub below : (solution : List PhpType) → IsSolution sys solution → Below sys.classes typing solution
  pub greatest : (lower : List PhpType) → IsTyping sys lower
      → ((solution : List PhpType) → IsSolution sys solution → Below sys.classes lower solution)
      → Below sys.classes lower typing
