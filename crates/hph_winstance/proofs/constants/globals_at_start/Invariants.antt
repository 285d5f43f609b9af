use Rattle.std.proofs.Common.{◌≡◌, map, take}
use Rattle.hph_wasm.specs.Instantiation.{initial_value}
use Rattle.hph_winstance.proofs.constants.globals_at_start.Given as goal

abbrev pub invariant-loop-global : goal.invariant-loop-global
invariant-loop-global l = l.globals ≡ map initial_value (take l.global-index l.global-items)
