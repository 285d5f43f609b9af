use Rattle.hph_sys.proofs.LeastLaws.{lowest_solution_is_least}
use Rattle.hph_sys.proofs.laws.lowest_solution_is_least.Goals as goal

pub returns : goal.returns
returns c = lowest_solution_is_least
