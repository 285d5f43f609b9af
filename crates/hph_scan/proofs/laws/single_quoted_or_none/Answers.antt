use Rattle.hph_scan.proofs.SingleQuotes as laws
use Rattle.hph_scan.proofs.laws.single_quoted_or_none.Goals as goal

pub returns : goal.returns
returns c = laws.single_quoted_or_none
