use Rattle.std.proofs.Common.{ℕ, sym, subst, ◌∙◌, ⊎_elim, arith, true≢false}
use Rattle.hph_type.specs.Types.{PhpType, none}
use Rattle.hph_type.specs.Order.{Leq, IsOf}
use Rattle.hph_sys.specs.Typings.{at}
use Rattle.hph_machine.proofs.Members.{in_item, in_more, get_any}
use Rattle.hph_machine.proofs.conditions.are_met.Goals as goal

pub bounds-cells-cell : goal.bounds-cells-cell
bounds-cells-cell c = (c.requires.pairs c.loop-cell-item.result (in_item c.args.pairs.now c.loop-cell.cell-index c.loop-cell-item.result (omega arith) c.loop-cell-item.is)).0

pub leq-requires-clause-left : goal.leq-requires-clause-left
leq-requires-clause-left c = (c.requires.pairs c.loop-cell-item.result (in_item c.args.pairs.now c.loop-cell.cell-index c.loop-cell-item.result (omega arith) c.loop-cell-item.is)).1

pub leq-requires-clause-right : goal.leq-requires-clause-right
leq-requires-clause-right c =
    let inside = (c.requires.pairs c.loop-cell-item.result (in_item c.args.pairs.now c.loop-cell.cell-index c.loop-cell-item.result (omega arith) c.loop-cell-item.is)).0 in
    let e = get_any c.args.cells.now c.loop-cell-item.result.0 none c.index-cells-cell.result inside ∙ sym c.index-cells-cell.is in
    subst (IsOf c.args.tree.now) e (c.requires.cells.types c.loop-cell-item.result.0)

pub returns-then-not-leq : goal.returns-then-not-leq
returns-then-not-leq c =
    let member = in_item c.args.pairs.now c.loop-cell.cell-index c.loop-cell-item.result (omega arith) c.loop-cell-item.is in
    let inside = (c.requires.pairs c.loop-cell-item.result member).0 in
    let e = get_any c.args.cells.now c.loop-cell-item.result.0 none c.index-cells-cell.result inside ∙ sym c.index-cells-cell.is in (
      λ t. absurd (true≢false (sym t)),
      λ all. let h = c.leq.ensures.1 (subst (Leq c.args.tree.now c.loop-cell-item.result.1) e (all c.loop-cell-item.result member)) in absurd (let f = c.if-not-leq.true in cc),
    )

pub loop-cell-preserved : goal.loop-cell-preserved
loop-cell-preserved c = λ pair k.
    let member = in_item c.args.pairs.now c.loop-cell.cell-index c.loop-cell-item.result (omega arith) c.loop-cell-item.is in
    let inside = (c.requires.pairs c.loop-cell-item.result member).0 in
    let e = get_any c.args.cells.now c.loop-cell-item.result.0 none c.index-cells-cell.result inside ∙ sym c.index-cells-cell.is in
    let met : Leq c.args.tree.now c.loop-cell-item.result.1 (at c.args.cells.now c.loop-cell-item.result.0) =
    subst (Leq c.args.tree.now c.loop-cell-item.result.1) (sym e) (c.leq.ensures.0 (let f = c.if-not-leq.false in cc)) in
    ⊎_elim (c.loop-cell.invariant pair)
    (λ x. subst (λ (p : ℕ × PhpType). Leq c.args.tree.now p.1 (at c.args.cells.now p.0)) (c.loop-cell-item.is ∙ sym x) met)
    (in_more c.args.pairs.now c.loop-cell.cell-index pair c.loop-cell-item.result (omega arith) k)
