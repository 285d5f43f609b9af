-- What the parts of a sweep leave. Source: this project's own.
use Rattle.std.specs.Prelude.{◌≡◌, ℕ, ◌<◌, List}
use Rattle.hph_type.specs.Types.{PhpType}
use Rattle.hph_sys.specs.Shape.{Shape}
use Rattle.hph_sys.specs.Least.{IsMet}
use Rattle.hph_infer.specs.Raising.{RaisedBy}

-- One scope is swept from K to L: where nothing rises, its pairs are met.
pub record Swept (sys : Shape) (s told : ℕ) (K L : List PhpType) : Type 0 where
  pub raised : RaisedBy sys told K L
  pub met : told ≡ 0 → IsMet sys L s

-- The scopes below i are swept.
pub record SweptRound (sys : Shape) (i told : ℕ) (K L : List PhpType) : Type 0 where
  pub raised : RaisedBy sys told K L
  pub met : told ≡ 0 → (s : ℕ) → s < i → IsMet sys L s
