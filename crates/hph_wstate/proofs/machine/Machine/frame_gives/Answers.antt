use Rattle.hph_wstate.proofs.Standing.{frame_told, no_frame_told}
use Rattle.hph_wstate.proofs.machine.Machine.frame_gives.Goals as goal

pub returns-in-Some : goal.returns-in-Some
returns-in-Some c = frame_told _ _ _ _ c.in-Some.ensures

pub returns-in-None : goal.returns-in-None
returns-in-None c = no_frame_told _ _ _ c.in-None.ensures
