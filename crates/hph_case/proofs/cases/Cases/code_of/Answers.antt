-- The code of a row is found at that row.
use Rattle.hph_case.proofs.LookUps.{row_of-read}
use Rattle.hph_case.proofs.cases.Cases.code_of.Goals as goal

pub returns-in-Some-clause-inverse : goal.returns-in-Some-clause-inverse
returns-in-Some-clause-inverse g c =
    row_of-read c.args.self.now.rows c.args.row c.from.result c.in-Some.found.now c.args.self.now.distinct c.from.ensures
    c.in-Some.ensures.lookup.0 c.in-Some.ensures.lookup.1
