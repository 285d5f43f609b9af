use Rattle.hph_turns.proofs.Rounds.{RaisedSoFar}
use Rattle.hph_turns.proofs.raise.raise_all.Given as goal

abbrev pub invariant-loop-cell : goal.invariant-loop-cell
invariant-loop-cell g l = RaisedSoFar (g.S.System.shape l.system) l.shared.0 l.fn.seat l.seat l.s l.pairs l.cell-index l.raised l.fn.known.items l.known.items
