use Rattle.std.proofs.Common.{ap, not, eqb, eq-eqb}
use Rattle.hph_core.proofs.Lists.{not_eqb}
use Rattle.hph_machine.proofs.Members.{seen_kept, seen_left}
use Rattle.hph_machine.proofs.lists.without.Goals as goal

pub loop-y-preserved-in-Continue-1 : goal.loop-y-preserved-in-Continue-1
loop-y-preserved-in-Continue-1 c = seen_kept (λ b. not (eqb b c.args.x)) c.loop-y.kept c.push_back.new.self c.loop-y.yielded c.in-Some.y c.loop-y.invariant (not_eqb c.in-Some.y.now c.args.x c.if-y-x.true) c.in_ok-push_back.ensures.items

pub loop-y-preserved : goal.loop-y-preserved
loop-y-preserved c = seen_left (λ b. not (eqb b c.args.x)) c.loop-y.kept c.loop-y.yielded c.in-Some.y c.loop-y.invariant (ap not (eq-eqb c.in-Some.y.now c.args.x c.if-y-x.false))
