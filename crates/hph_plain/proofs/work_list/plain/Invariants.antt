use Rattle.hph_plain.specs.Run.{Runs, left}
use Rattle.hph_plain.proofs.work_list.plain.Given as goal

abbrev pub invariant-loop-scope : goal.invariant-loop-scope
invariant-loop-scope g l = Runs (g.S.System.shape l.system) l.typing.items l.waiting

abbrev pub decreases-loop-scope : goal.decreases-loop-scope
decreases-loop-scope g l = left (g.S.System.shape l.system) l.typing.items l.waiting
