use Rattle.hph_turns.proofs.Steps.{Holding}
use Rattle.hph_turns.proofs.hold.hold_all.Given as goal

abbrev pub invariant-loop-i : goal.invariant-loop-i
invariant-loop-i g l = Holding l.shared.0 l.fn.seat l.seat l.look l.i
