use Rattle.hph_plan.proofs.PlanLaws.{literals_lie, literals_have_places}
use Rattle.hph_plan.proofs.laws.literals_have_places.Goals as goal

pub returns-clause-there : goal.returns-clause-there
returns-clause-there c = literals_lie

pub returns-clause-each : goal.returns-clause-each
returns-clause-each c = literals_have_places
