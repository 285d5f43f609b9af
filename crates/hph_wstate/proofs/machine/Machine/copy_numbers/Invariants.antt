use Rattle.std.proofs.Common.{◌≡◌, length, map, reverse, take}
use Rattle.hph_wasm.specs.HostAnswers.{FitParams}
use Rattle.hph_wasm.specs.Values.{number_of}
use Rattle.hph_wstate.specs.Machine.{core}
use Rattle.hph_wstate.proofs.machine.Machine.copy_numbers.Given as goal

abbrev pub invariant-loop-k : goal.invariant-loop-k
invariant-loop-k l = (l.numbers.items ≡ map number_of (take l.k (reverse (take (length l.params) (core l.self).values)))) ×
    FitParams (take l.k l.params) l.numbers.items
