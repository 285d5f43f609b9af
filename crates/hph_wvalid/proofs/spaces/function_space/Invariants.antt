use Rattle.std.proofs.Common.{◌≡◌, ◌++◌, map, drop}
use Rattle.hph_wasm.specs.Functions.{Defined, imported_functions, functions, type_number}
use Rattle.hph_wvalid.proofs.spaces.function_space.Given as goal

abbrev pub invariant-loop-import : goal.invariant-loop-import
invariant-loop-import l =
    l.numbers.items ++ map type_number (imported_functions (drop l.import-index l.import-items)) ≡ map type_number (imported_functions l.m.imports)

abbrev pub invariant-loop-func : goal.invariant-loop-func
invariant-loop-func l = l.numbers.items ++ map type_number (map Defined (drop l.func-index l.func-items)) ≡ map type_number (functions l.m)
