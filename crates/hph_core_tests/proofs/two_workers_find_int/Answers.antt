use Rattle.hph_core_tests.proofs.TwoRuns.{goes_through}
use Rattle.hph_core_tests.proofs.two_workers_find_int.Goals as goal

pub returns : goal.returns
returns c = goes_through
