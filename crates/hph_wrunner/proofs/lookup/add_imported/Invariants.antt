use Rattle.std.proofs.Common.{take}
use Rattle.hph_wasm.specs.Functions.{imported_functions}
use Rattle.hph_wrunner.specs.Callees.{CalleesFit}
use Rattle.hph_wrunner.proofs.lookup.add_imported.Given as goal

abbrev pub invariant-loop-k : goal.invariant-loop-k
invariant-loop-k g l = CalleesFit g.H.AnyHost.meaning l.m l.callees (imported_functions (take l.k l.import-items))
