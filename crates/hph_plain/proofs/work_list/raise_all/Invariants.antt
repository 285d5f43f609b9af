use Rattle.hph_plain.proofs.Rises.{AreRaised}
use Rattle.hph_plain.proofs.work_list.raise_all.Given as goal

abbrev pub invariant-loop-cell : goal.invariant-loop-cell
invariant-loop-cell g l =
    AreRaised (g.S.System.shape l.system) (g.met.S.System.laws l.system) l.scope l.pairs l.cell-index l.fn.typing.items l.fn.waiting l.typing.items l.waiting
