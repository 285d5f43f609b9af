use Rattle.hph_scan.proofs.SingleQuotes as laws
use Rattle.hph_scan.proofs.laws.one_single_quoted.Goals as goal

pub returns : goal.returns
returns c = laws.one_single_quoted
