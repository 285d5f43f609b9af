use Rattle.std.proofs.Common.{refl}
use Rattle.hph_wstate.proofs.Arguments.{one_more_fits, other_kind_turned}
use Rattle.hph_wstate.proofs.machine.all_fit.Goals as goal

pub returns-then-not-fits_at : goal.returns-then-not-fits_at
returns-then-not-fits_at c = other_kind_turned _ _ _ _ refl c.loop-k-test.true c.if-not-fits_at.ensures

pub loop-k-preserved : goal.loop-k-preserved
loop-k-preserved c = one_more_fits _ _ _ c.loop-k.invariant c.if-not-fits_at.ensures
