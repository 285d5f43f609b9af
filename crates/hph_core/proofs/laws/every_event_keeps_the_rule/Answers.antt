use Rattle.hph_core.proofs.Worth.{event_keeps}
use Rattle.hph_core.proofs.laws.every_event_keeps_the_rule.Goals as goal

pub returns : goal.returns
returns c = event_keeps
