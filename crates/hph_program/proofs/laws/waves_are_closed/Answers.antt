use Rattle.hph_program.proofs.Closed.{waves_are_closed}
use Rattle.hph_program.proofs.laws.waves_are_closed.Goals as goal

pub returns : goal.returns
returns c = waves_are_closed
