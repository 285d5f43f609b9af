use Rattle.hph_effect_laws.proofs.Host.{have_one_type}
use Rattle.hph_effect_laws.proofs.laws.host_keeps_its_types.Goals as goal

pub returns-clause-types : goal.returns-clause-types
returns-clause-types c = have_one_type
