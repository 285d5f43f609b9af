-- Accesses to a memory (Core Specification 1.0, 4.4.4).
use Rattle.std.specs.Prelude.{◌≡◌, ℕ, List, Bool, true, false, Some, None}
use Rattle.hph_integers.specs.declared.access.Access.{Access}
use Rattle.hph_integers.specs.declared.access.Access.TheVariants.{Byte, Half, Word, Double}
use Rattle.hph_wasm.specs.Memory.{stored}

-- How many bytes are read or written.
abbrev pub byte_count : Access → ℕ
byte_count Byte = 1
byte_count Half = 2
byte_count Word = 4
byte_count Double = 8

-- A number is stored, if there is room.
abbrev pub Stores : Access → (address number : ℕ) → (old : List ℕ) → Bool → (new : List ℕ) → Type 0
Stores access address n old true new = stored address (byte_count access) n old ≡ Some new
Stores access address n old false new = (stored address (byte_count access) n old ≡ None) × (new ≡ old)
