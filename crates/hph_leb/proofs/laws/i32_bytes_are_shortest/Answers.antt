use Rattle.hph_leb.proofs.SpelledNumbers.{i32_spelled, signed_least}
use Rattle.hph_leb.proofs.laws.i32_bytes_are_shortest.Goals as goal

pub returns : goal.returns
returns c = record { spelled = i32_spelled; least = signed_least 4 32 }
