use Rattle.hph_turns.proofs.Rounds.{ReadSoFar}
use Rattle.hph_turns.proofs.cells.read_cells.Given as goal

abbrev pub invariant-loop-c : goal.invariant-loop-c
invariant-loop-c g l = ReadSoFar (g.S.System.shape l.system) l.shared.0 l.fn.seat l.seat l.look l.c l.known.items
