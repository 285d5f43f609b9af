use Rattle.std.proofs.Common.{take}
use Rattle.std.specs.List.{AllByRecursion}
use Rattle.hph_wasm.specs.Validity.{IsFunc}
use Rattle.hph_wvalid.proofs.functions.first_invalid.Given as goal

abbrev pub invariant-loop-n : goal.invariant-loop-n
invariant-loop-n l = AllByRecursion (IsFunc l.m) (take l.n l.m.funcs)
