use Rattle.std.proofs.Common.{ℕ, ◌+◌, subst, sym, arith}
use Rattle.hph_sys.specs.Typings.{In}
use Rattle.hph_turns.proofs.Steps.{in_get_of, in_all}
use Rattle.hph_turns.proofs.Rounds.{may_mark, marked_paid, marked_back, MarkedSoFar}
use Rattle.hph_turns.proofs.Steps.{P}
use Rattle.hph_turns.proofs.raise.mark_all.Goals.{then-not-mark, else-not-mark}
use Rattle.hph_turns.proofs.raise.mark_all.Goals as goal

pub mark-requires-clause-may : goal.mark-requires-clause-may
mark-requires-clause-may g c = may_mark (g.S.System.shape c.args.shared.now.1.system.value) c.args.shared.now.0 c.args.seat.now c.loop-r.seat c.args.s _ c.args.owner c.args.readers.now c.loop-r.r-index c.pending_add.new.seat.1 c.loop-r.invariant c.pending_add.ensures.view (c.requires.readers _ (in_get_of c.args.readers.now c.loop-r.r-index (omega arith))) c.requires.owner

pub returns-clause-marked : goal.returns-clause-marked
returns-clause-marked g c r i = let x = in_all c.args.readers.now r i in subst (λ (k : ℕ). In k c.loop-r.seat.1.marks) (sym x.2) (c.loop-r.invariant.marked x.0 (let l = x.1 in omega arith))

pub loop-r-preserved : goal.loop-r-preserved
loop-r-preserved g c =
    let id = c.args.shared.now.0 in
    elim c.if-not-mark.branch [
      | then-not-mark b ↦ subst (λ (q : P). MarkedSoFar id c.args.seat.now q c.args.s c.args.readers.now (c.loop-r.r-index + 1)) (sym b.seat-is)
          (marked_back id c.args.seat.now c.loop-r.seat c.args.s c.args.readers.now c.loop-r.r-index c.pending_add.new.seat.1 c.mark.new.seat.1 b.pending_drop.new.seat c.loop-r.invariant c.pending_add.ensures.view c.mark.result b.if-not-mark.true c.mark.ensures.view b.pending_drop.ensures.seat b.pending_drop.ensures.view)
      | else-not-mark b ↦ subst (λ (q : P). MarkedSoFar id c.args.seat.now q c.args.s c.args.readers.now (c.loop-r.r-index + 1)) (sym b.seat-is)
          (marked_paid id c.args.seat.now c.loop-r.seat c.args.s c.args.readers.now c.loop-r.r-index c.pending_add.new.seat.1 c.mark.new.seat c.loop-r.invariant c.pending_add.ensures.view c.mark.ensures.seat c.mark.result b.if-not-mark.false c.mark.ensures.view)
    ]
