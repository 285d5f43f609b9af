use Rattle.hph_leb.proofs.SpelledNumbers.{u32_spelled, unsigned_least}
use Rattle.hph_leb.proofs.laws.u32_bytes_are_shortest.Goals as goal

pub returns : goal.returns
returns c = record { spelled = u32_spelled; least = unsigned_least 4 32 }
