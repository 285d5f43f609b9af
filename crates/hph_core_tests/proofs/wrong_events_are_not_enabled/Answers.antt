use Rattle.hph_core_tests.proofs.TwoRuns.{refuses}
use Rattle.hph_core_tests.proofs.wrong_events_are_not_enabled.Goals as goal

pub returns : goal.returns
returns c = refuses
