use Rattle.hph_wstate.proofs.Standing.{function_found, no_frame_told}
use Rattle.hph_wstate.proofs.machine.Machine.function.Goals as goal

pub returns-in-Some : goal.returns-in-Some
returns-in-Some c = function_found _ _ _ _ c.in-Some.ensures

pub returns-in-None : goal.returns-in-None
returns-in-None c = no_frame_told _ _ _ c.in-None.ensures
