use Rattle.hph_turns.proofs.Rounds.{MarkedSoFar}
use Rattle.hph_turns.proofs.raise.mark_all.Given as goal

abbrev pub invariant-loop-r : goal.invariant-loop-r
invariant-loop-r g l = MarkedSoFar l.shared.0 l.fn.seat l.seat l.s l.readers l.r-index
