use Rattle.hph_effect_laws.proofs.Host.{ends_halted, goes_serving}
use Rattle.hph_effect_laws.proofs.laws.host_stays_halted.Goals as goal

pub returns-clause-ends : goal.returns-clause-ends
returns-clause-ends c = ends_halted

pub returns-clause-goes : goal.returns-clause-goes
returns-clause-goes c = goes_serving
