-- Which bytes are those of a module that is written.
use Rattle.std.specs.Prelude.{◌≡◌, ℕ, List}
use Rattle.hph_wasm.specs.Spelling.{spelling, IsWritable}
use Rattle.hph_wasm.specs.declared.module.Module.{Module}
use Rattle.hph_wenc.specs.Fits.{ModuleFits}

-- The module can be written, its numbers and names are in their ranges, and these are its bytes.
pub record Spells (bytes : List ℕ) (m : Module) : Type 0 where
  pub writable : IsWritable m
  pub fits : ModuleFits m
  pub spelled : spelling m ≡ bytes
