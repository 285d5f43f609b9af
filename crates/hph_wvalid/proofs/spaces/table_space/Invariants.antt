use Rattle.std.proofs.Common.{◌≡◌, ◌++◌, drop}
use Rattle.hph_wasm.specs.Functions.{imported_tables, tables}
use Rattle.hph_wvalid.proofs.spaces.table_space.Given as goal

abbrev pub invariant-loop-import : goal.invariant-loop-import
invariant-loop-import l = l.types.items ++ imported_tables (drop l.import-index l.import-items) ≡ imported_tables l.m.imports

abbrev pub invariant-loop-ty : goal.invariant-loop-ty
invariant-loop-ty l = l.types.items ++ drop l.ty-index l.ty-items ≡ tables l.m
