use Rattle.std.proofs.Common.{sym, ◌∙◌}
use Rattle.hph_ops.proofs.PairSteps.{added_next}
use Rattle.hph_ops.proofs.unions.union.Goals as goal

pub pairs-preserved : goal.pairs-preserved
pairs-preserved c =
    rw c.in_ok-add_pair.ensures
    (sym (added_next c.pairs.map c.args.y.now.pairs c.pairs.index (c.in-Some.key.now, c.in-Some.value.now) (sym c.in-Some.ensures))
    ∙ c.pairs.invariant)
