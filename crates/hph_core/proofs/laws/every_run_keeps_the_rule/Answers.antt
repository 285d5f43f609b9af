use Rattle.hph_core.proofs.Worth.{every_run_keeps}
use Rattle.hph_core.proofs.laws.every_run_keeps_the_rule.Goals as goal

pub returns : goal.returns
returns c = every_run_keeps
