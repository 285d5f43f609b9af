-- What the lemmas on the parts of a module take from the library of numbers, whose laws state it.
use Rattle.std.proofs.Common.{◌<◌, ℕ, ◌^◌, FitsSigned, w32, w64}
use Rattle.std.specs.Prelude.{ℤ}
use Rattle.hph_wasm.specs.Leb128.{Unsigned, Signed, u32_bytes, i32_bytes, i64_bytes}

-- the bytes that are written of a number spell it
pub record NumbersAreSpelled : Type 0 where
  pub u32 : (n : ℕ) → n < 2 ^ 32 → Unsigned 32 n (u32_bytes n)
  pub i32 : (z : ℤ) → FitsSigned w32 z → Signed 32 z (i32_bytes z)
  pub i64 : (z : ℤ) → FitsSigned w64 z → Signed 64 z (i64_bytes z)
