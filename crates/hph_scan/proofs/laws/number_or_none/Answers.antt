use Rattle.hph_scan.proofs.DigitSteps as laws
use Rattle.hph_scan.proofs.laws.number_or_none.Goals as goal

pub returns : goal.returns
returns c = laws.number_or_none
