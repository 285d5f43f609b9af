-- Kinds of values.
use Rattle.std.specs.Prelude.{◌≡◌, ℕ}
use Rattle.hph_php.specs.Values.{Value, Arr, Pairs}

-- the value is an array
pub record IsArrayValue (v : Value) : Type 0 where
  pub pairs : Pairs
  pub next_key : ℕ
  pub is : v ≡ Arr pairs next_key
