use Rattle.hph_sys.proofs.LeastThere.{there_is_a_least}
use Rattle.hph_sys.proofs.laws.there_is_a_least.Goals as goal

pub returns : goal.returns
returns c = there_is_a_least
