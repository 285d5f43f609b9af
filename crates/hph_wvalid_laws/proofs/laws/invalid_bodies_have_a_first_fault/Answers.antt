use Rattle.hph_wvalid_laws.proofs.FirstFaults.{body_decided}
use Rattle.hph_wvalid_laws.proofs.laws.invalid_bodies_have_a_first_fault.Goals as goal

pub returns : goal.returns
returns c = body_decided
