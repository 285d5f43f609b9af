use Rattle.hph_leb.proofs.Bytewise.{unsigned_bytewise, signed_bytewise}
use Rattle.hph_leb.proofs.OneNumber.{one_number}
use Rattle.hph_leb.proofs.laws.one_number.Goals as goal

pub returns : goal.returns
returns c = record { unsigned = one_number unsigned_bytewise; signed = one_number signed_bytewise }
