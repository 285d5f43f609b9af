use Rattle.std.proofs.Common.{◌+◌, ◌-◌, ◌*◌, length}
use Rattle.hph_lex.proofs.ReadSoFar.{Reads, weight}
use Rattle.hph_lex.proofs.file.read.Given as goal

abbrev pub invariant-loop-reader : goal.invariant-loop-reader
invariant-loop-reader l = Reads l.bytes l.reader

abbrev pub decreases-loop-reader : goal.decreases-loop-reader
decreases-loop-reader l = 2 * (length l.bytes - l.reader.at) + weight l.reader.mode
