use Rattle.hph_effect_laws.proofs.Tables.{calls_go_by_row}
use Rattle.hph_effect_laws.proofs.laws.rows_are_imported.Goals as goal

pub returns-clause-called : goal.returns-clause-called
returns-clause-called c = calls_go_by_row
