use Rattle.hph_core.proofs.Worth.{is_of_use}
use Rattle.hph_core.proofs.laws.the_rule_is_of_use.Goals as goal

pub returns : goal.returns
returns c = is_of_use
