use Rattle.std.proofs.Common.{refl}
use Rattle.hph_wstate.proofs.Standing.{few_own}
use Rattle.hph_wstate.proofs.Arguments.{held_few, held_from}
use Rattle.hph_wstate.proofs.machine.Machine.holds.Goals as goal

pub returns-then-self-params : goal.returns-then-self-params
returns-then-self-params c = held_few _ _ _ _ refl c.if-self-params.true

pub returns-else-self-params : goal.returns-else-self-params
returns-else-self-params c = held_from _ _ _ _ _ refl c.if-self-params.false (few_own _ _ _ _ _ c.args.self.now.counted) c.all_fit.ensures
