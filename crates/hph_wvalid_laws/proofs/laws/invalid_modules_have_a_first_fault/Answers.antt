use Rattle.hph_wvalid_laws.proofs.FirstFaults.{module_decided}
use Rattle.hph_wvalid_laws.proofs.laws.invalid_modules_have_a_first_fault.Goals as goal

pub returns : goal.returns
returns c = module_decided
