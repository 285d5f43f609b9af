use Rattle.std.proofs.Common.{ap, not, eqb, eq-eqb}
use Rattle.hph_core.proofs.Lists.{not_eqb}
use Rattle.hph_machine.proofs.Members.{seen_kept, seen_left}
use Rattle.hph_machine.proofs.lists.elsewhere.Goals as goal

pub loop-k-preserved-in-Continue-1 : goal.loop-k-preserved-in-Continue-1
loop-k-preserved-in-Continue-1 c = seen_kept (λ b. not (eqb b.owner c.args.owner)) c.loop-k.kept c.push_back.new.self c.loop-k.yielded c.in-Some.k c.loop-k.invariant (not_eqb c.in-Some.k.now.owner c.args.owner c.if-k-owner.true) c.in_ok-push_back.ensures.items

pub loop-k-preserved : goal.loop-k-preserved
loop-k-preserved c = seen_left (λ b. not (eqb b.owner c.args.owner)) c.loop-k.kept c.loop-k.yielded c.in-Some.k c.loop-k.invariant (ap not (eq-eqb c.in-Some.k.now.owner c.args.owner c.if-k-owner.false))
