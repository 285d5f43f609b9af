use Rattle.std.proofs.Common.{◌≡◌, ◌++◌, drop}
use Rattle.hph_wasm.specs.Functions.{imported_memories, memories}
use Rattle.hph_wvalid.proofs.spaces.memory_space.Given as goal

abbrev pub invariant-loop-import : goal.invariant-loop-import
invariant-loop-import l = l.types.items ++ imported_memories (drop l.import-index l.import-items) ≡ imported_memories l.m.imports

abbrev pub invariant-loop-ty : goal.invariant-loop-ty
invariant-loop-ty l = l.types.items ++ drop l.ty-index l.ty-items ≡ memories l.m
