use Rattle.std.proofs.Common.{length}
use Rattle.hph_writer_tests.proofs.layout.+print.Given as goal

abbrev pub decreases-print : goal.decreases-print
decreases-print l = length l.pieces.now
