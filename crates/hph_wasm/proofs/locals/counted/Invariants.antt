use Rattle.std.proofs.Common.{◌≡◌, ◌++◌, length}
use Rattle.hph_wasm.specs.LocalRuns.{IsRising, counted}
use Rattle.hph_wasm.proofs.locals.counted.Given as goal

-- the runs that are left follow those that were counted
abbrev pub invariant-loop-left : goal.invariant-loop-left
invariant-loop-left l = record {
  whole : l.counts.items ++ counted l.from l.left ≡ counted 0 l.runs;
  rising : IsRising l.from l.left;
}

abbrev pub decreases-loop-left : goal.decreases-loop-left
decreases-loop-left l = length l.left
