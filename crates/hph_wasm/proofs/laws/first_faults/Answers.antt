use Rattle.hph_wasm.proofs.FaultLaws.{has_one_fault, has_one_first}
use Rattle.hph_wasm.proofs.laws.first_faults.Goals as goal

pub returns : goal.returns
returns c = record { body = has_one_fault; whole = has_one_first }
