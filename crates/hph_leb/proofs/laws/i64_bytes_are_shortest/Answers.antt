use Rattle.hph_leb.proofs.SpelledNumbers.{i64_spelled, signed_least}
use Rattle.hph_leb.proofs.laws.i64_bytes_are_shortest.Goals as goal

pub returns : goal.returns
returns c = record { spelled = i64_spelled; least = signed_least 9 64 }
