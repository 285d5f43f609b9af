use Rattle.hph_plan.proofs.PlanLaws.{names_found, slots_apart}
use Rattle.hph_plan.proofs.laws.names_have_slots.Goals as goal

pub returns-clause-each : goal.returns-clause-each
returns-clause-each c = names_found

pub returns-clause-apart : goal.returns-clause-apart
returns-clause-apart c = slots_apart
