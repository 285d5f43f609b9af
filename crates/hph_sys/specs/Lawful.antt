-- The laws of systems. Source: this project's own.
use Rattle.std.specs.Prelude.{◌≡◌, ℕ, ◌<◌, List, length, slice_index}
use Rattle.hph_type.specs.Types.{PhpType}
use Rattle.hph_type.specs.Order.{Leq, IsOf}
use Rattle.hph_sys.specs.Typings.{In, at, Below}
use Rattle.hph_sys.specs.Shape.{Shape, IsTyping, asked}

-- What every system keeps.
pub record Lawful (sys : Shape) : Type 0 where
  -- There is a scope, and what is named is in range.
  pub some_scope : 0 < sys.scopes
  pub owner_in : (cell : ℕ) → cell < sys.cells → sys.owner cell < sys.scopes
  pub look_in : (scope seen : ℕ) → scope < sys.scopes → In seen (sys.look scope) → seen < sys.scopes
  pub readers_in : (cell scope : ℕ) → cell < sys.cells → In scope (sys.readers cell) → scope < sys.scopes
  pub asks_cells : (scope : ℕ) (typing : List PhpType) → scope < sys.scopes → IsTyping sys typing
      → (pair : ℕ × PhpType) → In pair (sys.contrib scope typing) → (pair.0 < sys.cells) × IsOf sys.classes pair.1
  -- What a scope asks grows with the typing.
  pub monotone : (scope : ℕ) (lower upper : List PhpType) → scope < sys.scopes → IsTyping sys lower
      → IsTyping sys upper → Below sys.classes lower upper → (cell : ℕ)
      → Leq sys.classes (asked sys scope lower cell) (asked sys scope upper cell)
  -- It depends on the cells alone that the scope reads.
  pub local : (scope : ℕ) (a b : List PhpType) → scope < sys.scopes → IsTyping sys a → IsTyping sys b
      → ((cell : ℕ) → cell < sys.cells → In scope (sys.readers cell) → at a cell ≡ at b cell)
      → sys.contrib scope a ≡ sys.contrib scope b
  -- A scope looks at the owners of the cells that it reads or asks, and at itself, in ascending order.
  pub reads_look : (scope cell : ℕ) → cell < sys.cells → In scope (sys.readers cell)
      → In (sys.owner cell) (sys.look scope)
  pub asks_look : (scope : ℕ) (typing : List PhpType) → scope < sys.scopes → IsTyping sys typing
      → (pair : ℕ × PhpType) → In pair (sys.contrib scope typing) → In (sys.owner pair.0) (sys.look scope)
  pub look_self : (scope : ℕ) → scope < sys.scopes → In scope (sys.look scope)
  pub look_ascends : (scope i j : ℕ) → scope < sys.scopes → i < j → j < length (sys.look scope)
      → slice_index (sys.look scope) i < slice_index (sys.look scope) j
