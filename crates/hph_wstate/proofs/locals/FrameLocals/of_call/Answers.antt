use Rattle.hph_wstate.proofs.Kept.{zeros_in_two}
use Rattle.hph_wstate.proofs.locals.FrameLocals.of_call.Goals as goal

pub returns : goal.returns
returns c = zeros_in_two c.args.passed _ _ c.args.locals.now _ c.in_ok-push_zeros.ensures c.in_ok-far.ensures
