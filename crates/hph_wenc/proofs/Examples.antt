-- Bytes worked out by hand from section 5.5.13 of the WebAssembly Core Specification 1.0.
use Rattle.std.proofs.Common.{◌≡◌, [], ◌∷◌, refl}
use Rattle.hph_wasm.specs.Leb128.{shortest_unsigned}
use Rattle.hph_wasm.specs.Spelling.{runs_of, locals_bytes}
use Rattle.hph_wasm.specs.declared.types.ValType.TheVariants.{I32, I64}

-- equal locals that stand apart are two runs
equal_locals_apart : runs_of (I32 ∷ I32 ∷ I64 ∷ I32 ∷ []) ≡ (2, I32) ∷ (1, I64) ∷ (1, I32) ∷ []
equal_locals_apart = refl

-- no locals are no runs
no_locals : locals_bytes [] ≡ 0x00 ∷ []
unfolding shortest_unsigned
no_locals = refl
