-- Bytes that are split at the first separator: what stands in front of it is the first piece, and the other pieces are those of the rest.
use Rattle.std.specs.Prelude.{◌≡◌, ◌<◌, ℕ, List, [], ◌∷◌, length, Option, None, Some}
use Rattle.std.specs.Borrow.{Bor}
use Rattle.hph_php.specs.StringFunctions.{explode}

pub record AreSplit (separator bytes front rest : List ℕ) : Type 0 where
  pub pieces : explode separator bytes ≡ front ∷ explode separator rest
  pub shorter : length rest < length bytes

abbrev pub Splits : List ℕ → List ℕ → Option (Bor (List ℕ) × Bor (List ℕ)) → Type 0
Splits separator bytes (Some parts) = AreSplit separator bytes parts.0.now parts.1.now
Splits separator bytes None = explode separator bytes ≡ bytes ∷ []
