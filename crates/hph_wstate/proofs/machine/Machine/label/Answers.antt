use Rattle.hph_wstate.proofs.Standing.{label_found, no_label_done, label_past_done}
use Rattle.hph_wstate.proofs.machine.Machine.label.Goals as goal

pub returns-in-Some : goal.returns-in-Some
returns-in-Some c = label_found _ _ _ _ _ c.in-Some.ensures c.if-k-self.true

pub returns-in-None : goal.returns-in-None
returns-in-None c = no_label_done _ _ _ _ _ c.args.self.now.counted _ c.in-None.ensures

pub returns-else-k-self : goal.returns-else-k-self
returns-else-k-self c = label_past_done _ _ _ _ _ c.args.self.now.counted _ c.if-k-self.false
