use Rattle.hph_fexpr.proofs.BothWays.{targets_sound, targets_complete}
use Rattle.hph_fexpr.proofs.laws.targets_are_read.Goals as goal

pub returns-clause-sound : goal.returns-clause-sound
returns-clause-sound c = targets_sound

pub returns-clause-complete : goal.returns-clause-complete
returns-clause-complete c = targets_complete c.nesting_laws.ensures
