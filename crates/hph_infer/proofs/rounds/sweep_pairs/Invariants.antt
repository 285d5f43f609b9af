use Rattle.hph_infer.proofs.Sweeps.{SweptSoFar}
use Rattle.hph_infer.proofs.rounds.sweep_pairs.Given as goal

abbrev pub invariant-loop-cell : goal.invariant-loop-cell
invariant-loop-cell g l = SweptSoFar (g.S.System.shape l.system) l.pairs l.cell-index l.raises l.fn.cells.items l.cells.items
