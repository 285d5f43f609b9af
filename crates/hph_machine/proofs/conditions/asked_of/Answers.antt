use Rattle.std.proofs.Common.{◌≡◌, ℕ, ◌+◌, ◌-◌, ap, ◌∙◌, arith, length, get_or}
use Rattle.hph_type.specs.Types.{PhpType}
use Rattle.hph_type.specs.Order.{join}
use Rattle.hph_machine.proofs.Members.{in_get, get_any}
use Rattle.hph_machine.proofs.Asking.{asked_hit, asked_miss, asked_typed}
use Rattle.hph_machine.proofs.conditions.asked_of.Goals as goal
use Rattle.hph_machine.proofs.conditions.asked_of.Goals.{then-at-cell, else-at-cell}

pub join-asked-requires-clause-left : goal.join-asked-requires-clause-left
join-asked-requires-clause-left c = let n = length c.args.pairs.now in c.requires (get_or c.args.pairs.now (n - 1 - c.loop-i.i) c.index-pairs-pairs-in-loop-i.result) (in_get c.args.pairs.now (n - 1 - c.loop-i.i) c.index-pairs-pairs-in-loop-i.result (omega arith))

pub join-asked-requires-clause-right : goal.join-asked-requires-clause-right
join-asked-requires-clause-right c = asked_typed c.args.tree.now c.args.pairs.now c.args.cell (length c.args.pairs.now - c.loop-i.i) c.loop-i.asked c.requires c.loop-i.invariant

pub loop-i-preserved : goal.loop-i-preserved
loop-i-preserved c =
    let n = length c.args.pairs.now in
    let d = c.index-pairs-pairs-in-loop-i.result in
    let k = n - (c.loop-i.i + 1) in
    let j : n - 1 - c.loop-i.i ≡ k = omega arith in
    let p = get_or c.args.pairs.now (n - 1 - c.loop-i.i) d in
    let is_p : p ≡ get_or c.args.pairs.now k d = ap (λ (j : ℕ). get_or c.args.pairs.now j d) j in
    elim c.if-at-cell.branch [
      | then-at-cell w ↦ asked_hit c.args.tree.now c.args.pairs.now c.args.cell k (n - c.loop-i.i) p d (omega arith) (omega arith) is_p c.loop-i.asked c.if-at-cell.asked (ap (λ (q : ℕ × PhpType). q.0) (get_any c.args.pairs.now (n - 1 - c.loop-i.i) d _ (omega arith)) ∙ w.if-at-cell.true) c.loop-i.invariant (w.asked-is ∙ (w.join-asked.ensures ∙ ap (λ (q : ℕ × PhpType). join c.args.tree.now q.1 c.loop-i.asked) (get_any c.args.pairs.now (n - 1 - c.loop-i.i) _ d (omega arith))))
      | else-at-cell w ↦ w.asked-is ∙ asked_miss c.args.tree.now c.args.pairs.now c.args.cell k (n - c.loop-i.i) p d (omega arith) (omega arith) is_p c.loop-i.asked (λ e. w.if-at-cell.false (ap (λ (q : ℕ × PhpType). q.0) (get_any c.args.pairs.now (n - 1 - c.loop-i.i) _ d (omega arith)) ∙ e)) c.loop-i.invariant
    ]

pub returns-clause-of : goal.returns-clause-of
returns-clause-of c = asked_typed c.args.tree.now c.args.pairs.now c.args.cell (length c.args.pairs.now - c.loop-i.i) c.loop-i.asked c.requires c.loop-i.invariant
