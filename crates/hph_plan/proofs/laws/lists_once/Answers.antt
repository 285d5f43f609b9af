use Rattle.hph_plan.proofs.PlanLaws.{plans_list_once, bodies_list_once, lists_same}
use Rattle.hph_plan.proofs.laws.lists_once.Goals as goal

pub returns-clause-plans : goal.returns-clause-plans
returns-clause-plans c = plans_list_once

pub returns-clause-bodies : goal.returns-clause-bodies
returns-clause-bodies c = bodies_list_once

pub returns-clause-same : goal.returns-clause-same
returns-clause-same c = lists_same
