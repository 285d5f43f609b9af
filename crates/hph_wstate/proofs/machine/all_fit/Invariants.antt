use Rattle.std.proofs.Common.{◌≡◌, reverse, take}
use Rattle.hph_wasm.specs.Values.{types}
use Rattle.hph_wstate.proofs.machine.all_fit.Given as goal

abbrev pub invariant-loop-k : goal.invariant-loop-k
invariant-loop-k l = types (take l.k l.values) ≡ take l.k (reverse l.params)
