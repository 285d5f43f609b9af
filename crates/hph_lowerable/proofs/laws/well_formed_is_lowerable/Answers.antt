use Rattle.hph_lowerable.proofs.WellFormedLaw.{well_formed_is_lowerable}
use Rattle.hph_lowerable.proofs.laws.well_formed_is_lowerable.Goals as goal

pub returns : goal.returns
returns c = well_formed_is_lowerable
