-- A row that is found has the code, and a code that is not found is the code of no row.
use Rattle.std.proofs.Common.{sym}
use Rattle.hph_case.proofs.LookUps.{row_of-Some, row_of-None}
use Rattle.hph_case.proofs.cases.Cases.row_of.Goals as goal

pub returns-in-Some-clause-inverse : goal.returns-in-Some-clause-inverse
returns-in-Some-clause-inverse g c = row_of-Some c.args.self.now.rows c.args.code c.in-Some.row (sym c.in-Some.ensures.value)

pub returns-in-None-clause-none : goal.returns-in-None-clause-none
returns-in-None-clause-none g c =
    row_of-None c.args.self.now.rows c.args.code c.args.self.now.distinct (sym c.in-None.ensures.value)
