use Rattle.hph_sys.proofs.LeastLaws.{least_is_one}
use Rattle.hph_sys.proofs.laws.least_is_one.Goals as goal

pub returns : goal.returns
returns c = least_is_one
