use Rattle.std.proofs.Common.{length}
use Rattle.hph_module_tests.proofs.faults.+are_short.Given as goal

abbrev pub decreases-are_short : goal.decreases-are_short
decreases-are_short l = length l.funcs.now
