use Rattle.std.proofs.Common.{◌≡◌, ◌++◌, map, drop}
use Rattle.hph_wasm.specs.Functions.{imported_globals, globals}
use Rattle.hph_wvalid.proofs.spaces.global_space.Given as goal

abbrev pub invariant-loop-import : goal.invariant-loop-import
invariant-loop-import l = l.types.items ++ imported_globals (drop l.import-index l.import-items) ≡ imported_globals l.m.imports

abbrev pub invariant-loop-global : goal.invariant-loop-global
invariant-loop-global l = l.types.items ++ map (λ global. global.ty) (drop l.global-index l.global-items) ≡ globals l.m
