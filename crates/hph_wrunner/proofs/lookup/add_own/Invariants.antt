use Rattle.std.proofs.Common.{◌++◌, map, take}
use Rattle.hph_wasm.specs.Functions.{Defined, imported_functions}
use Rattle.hph_wrunner.specs.Callees.{CalleesFit}
use Rattle.hph_wrunner.proofs.lookup.add_own.Given as goal

abbrev pub invariant-loop-func : goal.invariant-loop-func
invariant-loop-func g l = CalleesFit g.H.AnyHost.meaning l.m l.callees
    (imported_functions l.m.imports ++ map Defined (take l.func-index l.func-items))
