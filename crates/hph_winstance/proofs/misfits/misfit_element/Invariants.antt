use Rattle.std.proofs.Common.{map, take}
use Rattle.std.specs.List.{AllByRecursion}
use Rattle.hph_wasm.specs.Instantiation.{IsWithin, element_placement}
use Rattle.hph_winstance.proofs.misfits.misfit_element.Given as goal

abbrev pub invariant-loop-k : goal.invariant-loop-k
invariant-loop-k l = AllByRecursion IsWithin (map (element_placement l.m) (take l.k l.element-items))
