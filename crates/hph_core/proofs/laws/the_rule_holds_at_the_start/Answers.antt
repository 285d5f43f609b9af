use Rattle.hph_core.proofs.Worth.{starts_well}
use Rattle.hph_core.proofs.laws.the_rule_holds_at_the_start.Goals as goal

pub returns : goal.returns
returns c = starts_well
