-- Reading a part of a module at the head of bytes: how the part ends, or why there is none (section 5 of the WebAssembly Core Specification
-- 1.0, less the features that are left out).
use Rattle.std.specs.Prelude.{◌≡◌, ◌≤◌, ℕ, ◌+◌, List, ◌++◌, length}
use Rattle.hph_wasm.specs.Grammar.{Grammar}
use Rattle.hph_wasm.specs.Unsupported.{Stop}
use Rattle.hph_wasm.specs.declared.feature.Feature.{Feature}
use Rattle.hph_wread.specs.declared.fault.Fault.{Fault}
use Rattle.hph_wread.specs.declared.fault.Fault.TheVariants.{Malformed, Unsupported, NoMemory}

-- the bytes begin with a spelling of this, and the rest stands behind it
pub record Took (P : List ℕ → Type 0) (bytes rest : List ℕ) : Type 0 where
  pub front : List ℕ
  pub split : bytes ≡ front ++ rest
  pub spelled : P front

-- something left out begins where so many bytes are left
pub record StopsAt (S : ℕ → Feature → List ℕ → Type 0) (bytes : List ℕ) (left : ℕ) (feature : Feature) : Type 0 where
  pub place : ℕ
  pub counted : place + left ≡ length bytes
  pub stops : S place feature bytes

-- the bytes don't begin with a spelling of this, and nothing left out is met
pub record IsNeither (P : List ℕ → Type 0) (S : ℕ → Feature → List ℕ → Type 0) (bytes : List ℕ) : Type 0 where
  pub none : (rest : List ℕ) → ¬ Took P bytes rest
  pub nowhere : (place : ℕ) (feature : Feature) → ¬ S place feature bytes

-- why nothing was read of the bytes; a fault tells how many bytes are left where it is met
abbrev pub Reason : Grammar → Stop → List ℕ → Fault → Type 0
Reason P S bytes (Malformed left) = (left ≤ length bytes) × IsNeither P S bytes
Reason P S bytes (Unsupported left feature) = StopsAt S bytes left feature
Reason P S bytes NoMemory = Unit {0}

pub record Fails (P : List ℕ → Type 0) (S : ℕ → Feature → List ℕ → Type 0) (bytes : List ℕ) (fault : Fault) : Type 0 where
  pub reason : Reason P S bytes fault
