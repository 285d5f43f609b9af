use Rattle.std.proofs.Common.{◌≡◌, drop}
use Rattle.hph_wstate.specs.Machine.{core}
use Rattle.hph_wstate.proofs.machine.Machine.skip.Given as goal

abbrev pub invariant-loop-k : goal.invariant-loop-k
invariant-loop-k l = core l.self ≡ record (core l.initial.self) { labels = drop l._k (core l.initial.self).labels }
