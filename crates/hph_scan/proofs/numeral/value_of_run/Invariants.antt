use Rattle.std.proofs.Common.{◌≡◌, ℕ, min, length}
use Rattle.hph_scan.specs.declared.numeral.TheConstants.{LONG_VALUE}
use Rattle.hph_scan.proofs.DigitSteps.{SameValue}
use Rattle.hph_scan.proofs.numeral.value_of_run.Given as goal

-- the digits so far have a value, and what stands behind them goes on from it
abbrev pub invariant-loop-digit : goal.invariant-loop-digit
invariant-loop-digit l = record {
  before : ℕ;
  told : l.value ≡ min before LONG_VALUE;
  same : SameValue l.base before l.rest l.run;
}

abbrev pub decreases-loop-digit : goal.decreases-loop-digit
decreases-loop-digit l = length l.rest
