use Rattle.hph_wellformed.proofs.SourceLaw.{sources_are_well_formed}
use Rattle.hph_wellformed.proofs.laws.sources_are_well_formed.Goals as goal

pub returns : goal.returns
returns c = sources_are_well_formed
