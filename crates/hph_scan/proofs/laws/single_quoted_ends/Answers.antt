use Rattle.hph_scan.proofs.SingleQuotes as laws
use Rattle.hph_scan.proofs.laws.single_quoted_ends.Goals as goal

pub returns : goal.returns
returns c = laws.single_quoted_ends
