use Rattle.hph_infer.specs.Sweep.{SweptRound}
use Rattle.hph_infer.proofs.rounds.sweep_round.Given as goal

abbrev pub invariant-loop-s : goal.invariant-loop-s
invariant-loop-s g l = SweptRound (g.S.System.shape l.system) l.s l.raises l.fn.cells.items l.cells.items
