use Rattle.hph_sys.specs.AskedLaws.{met_by_asked}
use Rattle.hph_sys.proofs.laws.met_by_asked.Goals as goal

pub returns : goal.returns
returns c = met_by_asked
