use Rattle.hph_core.proofs.Worth.{findings_stay}
use Rattle.hph_core.proofs.laws.findings_stay.Goals as goal

pub returns : goal.returns
returns c = findings_stay
