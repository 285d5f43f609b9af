use Rattle.std.proofs.Common.{ap, sym, ◌∙◌}
use Rattle.hph_core.specs.Conditions.{met_after}
use Rattle.hph_machine.proofs.Findings.{met_seen, met_other}
use Rattle.hph_machine.proofs.conditions.last_met.Goals as goal

pub loop-finding-preserved-in-Took : goal.loop-finding-preserved-in-Took
loop-finding-preserved-in-Took c = sym (ap (met_after c.loop-finding.met) c.in-Took.is) ∙ met_seen c.loop-finding.met c.loop-finding.yielded c.in-Some.finding c.loop-finding.invariant

pub loop-finding-preserved-in-Got : goal.loop-finding-preserved-in-Got
loop-finding-preserved-in-Got c = sym (ap (met_after c.loop-finding.met) c.in-Got.is) ∙ met_seen c.loop-finding.met c.loop-finding.yielded c.in-Some.finding c.loop-finding.invariant

pub loop-finding-preserved-in-Busy : goal.loop-finding-preserved-in-Busy
loop-finding-preserved-in-Busy c = sym (ap (met_after c.loop-finding.met) c.in-Busy.is) ∙ met_seen c.loop-finding.met c.loop-finding.yielded c.in-Some.finding c.loop-finding.invariant

pub loop-finding-preserved : goal.loop-finding-preserved
loop-finding-preserved c = sym (met_other c.loop-finding.met c.in-Some.finding.now c.in_default.not-Took c.in_default.not-Got c.in_default.not-Busy) ∙ met_seen c.loop-finding.met c.loop-finding.yielded c.in-Some.finding c.loop-finding.invariant
