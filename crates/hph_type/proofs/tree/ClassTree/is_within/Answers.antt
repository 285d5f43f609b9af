use Rattle.std.proofs.Common.{◌<◌, ◌∙◌, sym, arith}
use Rattle.hph_type.proofs.ClassLaws.{parent-lt, within-lower, within-root, within-last}
use Rattle.hph_type.proofs.tree.ClassTree.is_within.Goals as goal

pub loop-at-smaller : goal.loop-at-smaller
loop-at-smaller c = parent-lt c.args.self.now _ _ (sym c.in-Some.ensures)

pub loop-at-preserved : goal.loop-at-preserved
loop-at-preserved c =
    let lower : c.in-Some.parent < c.loop-at.at = parent-lt c.args.self.now _ _ (sym c.in-Some.ensures) in (
      omega arith,
      c.loop-at.invariant.1 ∙ within-lower c.args.self.now _ _ _ c.loop-at-test.true (sym c.in-Some.ensures),
    )

pub returns-in-None : goal.returns-in-None
returns-in-None c =
    sym (c.loop-at.invariant.1 ∙ within-root c.args.self.now _ _ c.loop-at-test.true (sym c.in-None.ensures))

pub returns : goal.returns
returns c = within-last c.args.self.now _ _ c.loop-at-test.false ∙ sym c.loop-at.invariant.1
