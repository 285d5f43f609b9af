use Rattle.hph_wstate.specs.Machine.{held}
use Rattle.hph_wstate.proofs.Standing.{discard_done, within_own}
use Rattle.hph_wstate.proofs.machine.Machine.discard.Goals as goal

pub returns : goal.returns
returns c = discard_done c.args.self.now.code.now (held c.args.self.now) _ _ _ _ _ _ _
    (within_own _ _ _ _ _ _ c.args.self.now.counted c.requires) c.discard.ensures
