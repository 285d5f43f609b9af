use Rattle.hph_fstmt.proofs.BothWays.{statement_sound, statement_complete}
use Rattle.hph_fstmt.proofs.laws.statements_are_read.Goals as goal

pub returns-clause-sound : goal.returns-clause-sound
returns-clause-sound c = statement_sound c.laws.ensures

pub returns-clause-complete : goal.returns-clause-complete
returns-clause-complete c = statement_complete c.laws.ensures
