use Rattle.std.proofs.Common.{◌≡◌, ◌++◌, take}
use Rattle.hph_wasm.specs.Values.{zero_values}
use Rattle.hph_wstate.proofs.zero.push_zeros.Given as goal

abbrev pub invariant-loop-k : goal.invariant-loop-k
invariant-loop-k l = l.values ≡ l.initial.values ++ zero_values (take l.k l.locals)
