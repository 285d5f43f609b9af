use Rattle.hph_fstmt.proofs.BothWays.{file_sound, file_complete}
use Rattle.hph_fstmt.proofs.laws.files_are_read.Goals as goal

pub returns-clause-sound : goal.returns-clause-sound
returns-clause-sound c = file_sound c.laws.ensures

pub returns-clause-complete : goal.returns-clause-complete
returns-clause-complete c = file_complete c.laws.ensures
