use Rattle.hph_plain.proofs.Waits.{AreFilled}
use Rattle.hph_plain.proofs.waiting.Waiting.all.Given as goal

abbrev pub invariant-loop-scope : goal.invariant-loop-scope
invariant-loop-scope l = AreFilled l.scope l.flags.items l.stack.items
