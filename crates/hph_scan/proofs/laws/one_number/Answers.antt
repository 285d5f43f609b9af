use Rattle.hph_scan.proofs.DigitSteps as laws
use Rattle.hph_scan.proofs.laws.one_number.Goals as goal

pub returns : goal.returns
returns c = laws.one_number
