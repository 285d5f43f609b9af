use Rattle.hph_fexpr.proofs.BothWays.{paths_sound, paths_complete}
use Rattle.hph_fexpr.proofs.laws.paths_are_read.Goals as goal

pub returns-clause-sound : goal.returns-clause-sound
returns-clause-sound c = paths_sound

pub returns-clause-complete : goal.returns-clause-complete
returns-clause-complete c = paths_complete c.nesting_laws.ensures
