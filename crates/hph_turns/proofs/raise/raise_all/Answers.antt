use Rattle.std.proofs.Common.{◌≡◌, ℕ, ◌+◌, List, Bool, true, subst, sym, refl, ap, arith}
use Rattle.std.specs.Prelude.{Vec}
use Rattle.std.specs.declared.alloc.Global.{Global}
use Rattle.hph_type.specs.Types.{PhpType}
use Rattle.hph_type.specs.Order.{Leq}
use Rattle.hph_type.specs.declared.ty.Ty.{Ty}
use Rattle.hph_sys.specs.Typings.{at}
use Rattle.hph_sys.specs.Shape.{Shape}
use Rattle.hph_turns.specs.Phases.{IsAtWork}
use Rattle.hph_turns.proofs.Steps.{P}
use Rattle.hph_turns.proofs.Rounds.{RaisedSoFar, asks_item, unmet_by, met_by, of_tree, raised_start, raised_more, raised_none, all_met, read_at, subst3_p}
use Rattle.hph_turns.proofs.raise.raise_all.Goals.{then-not-leq, else-not-leq}
use Rattle.hph_turns.proofs.raise.raise_all.Goals as goal

pub loop-cell-init : goal.loop-cell-init
loop-cell-init g c = raised_start (g.S.System.shape c.args.system.now) c.args.shared.now.0 c.args.seat.now c.args.s c.args.pairs.now c.args.known.now.items c.requires.table c.requires.at_work

pub index-requires : goal.index-requires
index-requires g c =
    let sys : Shape = g.S.System.shape c.args.system.now in
    let inv = c.loop-cell.invariant in
    let a = asks_item sys (g.met.S.System.laws c.args.system.now) c.args.s c.args.pairs.now c.args.known.now.items c.loop-cell.known.items c.loop-cell.cell-index c.loop-cell-item.result inv.work.scope_in c.requires.pairs inv.typing inv.work.knows.typing inv.grown c.loop-cell-test.true c.loop-cell-item.is in
    let l = inv.work.knows.typing.len in let k = a.0 in let o = c.loop-cell.known.ok.0 in omega arith

pub leq-requires-clause-left : goal.leq-requires-clause-left
leq-requires-clause-left g c =
    let sys : Shape = g.S.System.shape c.args.system.now in
    let inv = c.loop-cell.invariant in
    let a = asks_item sys (g.met.S.System.laws c.args.system.now) c.args.s c.args.pairs.now c.args.known.now.items c.loop-cell.known.items c.loop-cell.cell-index c.loop-cell-item.result inv.work.scope_in c.requires.pairs inv.typing inv.work.knows.typing inv.grown c.loop-cell-test.true c.loop-cell-item.is in
    of_tree sys.classes c.tree.result.now c.loop-cell-item.result.1 c.loop-cell-item.result.1 c.tree.ensures refl a.2

pub leq-requires-clause-right : goal.leq-requires-clause-right
leq-requires-clause-right g c =
    let sys : Shape = g.S.System.shape c.args.system.now in
    let inv = c.loop-cell.invariant in
    let K : List PhpType = c.loop-cell.known.items in
    let p : ℕ × PhpType = c.loop-cell-item.result in
    let a = asks_item sys (g.met.S.System.laws c.args.system.now) c.args.s c.args.pairs.now c.args.known.now.items K c.loop-cell.cell-index p inv.work.scope_in c.requires.pairs inv.typing inv.work.knows.typing inv.grown c.loop-cell-test.true c.loop-cell-item.is in
    let is : c.index.result.now ≡ at K p.0 = read_at K p.0 c.index.result.now (let l = inv.work.knows.typing.len in let k = a.0 in omega arith) c.index.ensures in
    of_tree sys.classes c.tree.result.now (at K p.0) c.index.result.now c.tree.ensures is (inv.work.knows.typing.types p.0)

pub raise_one-requires-clause-cell : goal.raise_one-requires-clause-cell
raise_one-requires-clause-cell g c =
    let sys : Shape = g.S.System.shape c.args.system.now in
    let inv = c.loop-cell.invariant in
    let a = asks_item sys (g.met.S.System.laws c.args.system.now) c.args.s c.args.pairs.now c.args.known.now.items c.loop-cell.known.items c.loop-cell.cell-index c.loop-cell-item.result inv.work.scope_in c.requires.pairs inv.typing inv.work.knows.typing inv.grown c.loop-cell-test.true c.loop-cell-item.is in
    (a.0, a.1)

pub raise_one-requires-clause-asks : goal.raise_one-requires-clause-asks
raise_one-requires-clause-asks g c =
    let sys : Shape = g.S.System.shape c.args.system.now in
    let inv = c.loop-cell.invariant in
    let a = asks_item sys (g.met.S.System.laws c.args.system.now) c.args.s c.args.pairs.now c.args.known.now.items c.loop-cell.known.items c.loop-cell.cell-index c.loop-cell-item.result inv.work.scope_in c.requires.pairs inv.typing inv.work.knows.typing inv.grown c.loop-cell-test.true c.loop-cell-item.is in
    (a.2, a.3)

pub raise_one-requires-clause-unmet : goal.raise_one-requires-clause-unmet
raise_one-requires-clause-unmet g c =
    let sys : Shape = g.S.System.shape c.args.system.now in
    let inv = c.loop-cell.invariant in
    let K : List PhpType = c.loop-cell.known.items in
    let p : ℕ × PhpType = c.loop-cell-item.result in
    let a = asks_item sys (g.met.S.System.laws c.args.system.now) c.args.s c.args.pairs.now c.args.known.now.items K c.loop-cell.cell-index p inv.work.scope_in c.requires.pairs inv.typing inv.work.knows.typing inv.grown c.loop-cell-test.true c.loop-cell-item.is in
    let is : c.index.result.now ≡ at K p.0 = read_at K p.0 c.index.result.now (let l = inv.work.knows.typing.len in let k = a.0 in omega arith) c.index.ensures in
    unmet_by sys.classes c.tree.result.now p.1 c.index.result.now (at K p.0) c.leq.result c.leq.ensures c.tree.ensures is c.if-not-leq.true

pub loop-cell-preserved : goal.loop-cell-preserved
loop-cell-preserved g c =
    let sys : Shape = g.S.System.shape c.args.system.now in
    let law = g.met.S.System.laws c.args.system.now in
    let inv = c.loop-cell.invariant in
    let id = c.args.shared.now.0 in
    let pairs = c.args.pairs.now in
    let i = c.loop-cell.cell-index in
    let K : List PhpType = c.loop-cell.known.items in
    let K0 : List PhpType = c.args.known.now.items in
    let p : ℕ × PhpType = c.loop-cell-item.result in
    let a = asks_item sys law c.args.s pairs K0 K i p inv.work.scope_in c.requires.pairs inv.typing inv.work.knows.typing inv.grown c.loop-cell-test.true c.loop-cell-item.is in
    let is : c.index.result.now ≡ at K p.0 = read_at K p.0 c.index.result.now (let l = inv.work.knows.typing.len in let k = a.0 in omega arith) c.index.ensures in
    elim c.if-not-leq.branch [
      | then-not-leq b ↦ subst3_p (λ (q : P) (L : List PhpType) (r : Bool). RaisedSoFar sys id c.args.seat.now q c.args.s pairs (i + 1) r K0 L) (sym b.seat-is) (sym (ap (λ (v : Vec Ty Global). v.items) b.known-is)) (sym b.raised-is)
          (subst (λ (L : List PhpType). RaisedSoFar sys id c.args.seat.now b.raise_one.new.seat c.args.s pairs (i + 1) true K0 L) (sym b.raise_one.ensures.risen)
          (raised_more sys law id c.args.seat.now c.loop-cell.seat b.raise_one.new.seat c.args.s pairs i c.loop-cell.raised K0 K p.0 p.1 inv b.raise_one.ensures.table
          (subst (λ (L : List PhpType). IsAtWork sys b.raise_one.new.seat.1 c.args.seat.now.1.number c.args.s L) b.raise_one.ensures.risen (subst (λ (n : ℕ). IsAtWork sys b.raise_one.new.seat.1 n c.args.s b.raise_one.new.known.items) inv.work.hand.number b.raise_one.ensures.at_work))
          a.0 a.2 (unmet_by sys.classes c.tree.result.now p.1 c.index.result.now (at K p.0) c.leq.result c.leq.ensures c.tree.ensures is b.if-not-leq.true)))
      | else-not-leq b ↦ subst3_p (λ (q : P) (L : List PhpType) (r : Bool). RaisedSoFar sys id c.args.seat.now q c.args.s pairs (i + 1) r K0 L) (sym b.seat-is) (sym (ap (λ (v : Vec Ty Global). v.items) b.known-is)) (sym b.raised-is)
          (raised_none sys id c.args.seat.now c.loop-cell.seat c.args.s pairs i c.loop-cell.raised K0 K p c.loop-cell-test.true inv (subst (λ (x : ℕ × PhpType). Leq sys.classes x.1 (at K x.0)) c.loop-cell-item.is (met_by sys.classes c.tree.result.now p.1 c.index.result.now (at K p.0) c.leq.result c.leq.ensures c.tree.ensures is b.if-not-leq.false)))
    ]

pub returns-clause-met : goal.returns-clause-met
returns-clause-met g c f = all_met (g.S.System.shape c.args.system.now) c.args.shared.now.0 c.args.seat.now c.loop-cell.seat c.args.s c.args.pairs.now c.loop-cell.cell-index c.loop-cell.raised c.args.known.now.items c.loop-cell.known.items (omega arith) c.requires.pairs c.loop-cell.invariant f
