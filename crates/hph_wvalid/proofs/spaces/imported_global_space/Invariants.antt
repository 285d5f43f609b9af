use Rattle.std.proofs.Common.{◌≡◌, ◌++◌, drop}
use Rattle.hph_wasm.specs.Functions.{imported_globals}
use Rattle.hph_wvalid.proofs.spaces.imported_global_space.Given as goal

abbrev pub invariant-loop-import : goal.invariant-loop-import
invariant-loop-import l = l.types.items ++ imported_globals (drop l.import-index l.import-items) ≡ imported_globals l.m.imports
