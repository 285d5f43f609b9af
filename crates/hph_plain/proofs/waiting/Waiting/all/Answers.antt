use Rattle.hph_plain.proofs.Waits.{filled-pushed}
use Rattle.hph_plain.proofs.waiting.Waiting.all.Goals as goal

pub loop-scope-preserved : goal.loop-scope-preserved
loop-scope-preserved c =
    filled-pushed c.loop-scope.scope c.loop-scope.flags.items c.push.new.self.items c.loop-scope.stack.items
    c.push-in-loop-scope.new.self.items c.in_ok-push.ensures.items c.in_ok-push-2.ensures.items c.loop-scope.invariant
