use Rattle.hph_sys.specs.AskedLaws.{asked_is_least}
use Rattle.hph_sys.proofs.laws.asked_is_least.Goals as goal

pub returns : goal.returns
returns c = asked_is_least
