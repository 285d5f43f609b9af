use Rattle.hph_wvalid_laws.proofs.FirstFaults.{outside_decided}
use Rattle.hph_wvalid_laws.proofs.laws.outside_code_is_decided.Goals as goal

pub returns : goal.returns
returns c = outside_decided
