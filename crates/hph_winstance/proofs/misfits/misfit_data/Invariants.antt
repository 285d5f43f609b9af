use Rattle.std.proofs.Common.{map, take}
use Rattle.std.specs.List.{AllByRecursion}
use Rattle.hph_wasm.specs.Instantiation.{IsWithin, segment_placement}
use Rattle.hph_winstance.proofs.misfits.misfit_data.Given as goal

abbrev pub invariant-loop-k : goal.invariant-loop-k
invariant-loop-k l = AllByRecursion IsWithin (map (segment_placement l.m) (take l.k l.segment-items))
