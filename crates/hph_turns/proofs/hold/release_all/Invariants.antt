use Rattle.hph_turns.proofs.Steps.{Releasing}
use Rattle.hph_turns.proofs.hold.release_all.Given as goal

abbrev pub invariant-loop-d : goal.invariant-loop-d
invariant-loop-d g l = Releasing l.shared.0 l.fn.seat l.seat l.held l.d-index
