use Rattle.std.proofs.Common.{◌≡◌, drop, codes}
use Rattle.hph_wasm.specs.Run.{exported_function}
use Rattle.hph_wlink.proofs.entry.exported_main.Given as goal

abbrev pub invariant-loop-export : goal.invariant-loop-export
invariant-loop-export l = exported_function (codes "main") l.m.exports ≡ exported_function (codes "main") (drop l.export-index l.export-items)
