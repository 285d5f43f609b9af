use Rattle.std.proofs.Common.{◌≡◌, ℕ, ◌+◌, List, set, subst, sym, refl, ap, ◌∙◌, arith}
use Rattle.std.specs.Prelude.{Vec}
use Rattle.std.specs.declared.alloc.Global.{Global}
use Rattle.hph_type.specs.Types.{PhpType}
use Rattle.hph_type.specs.Classes.{Parents}
use Rattle.hph_type.specs.Order.{join}
use Rattle.hph_type.specs.declared.ty.Ty.{Ty}
use Rattle.hph_sys.specs.Typings.{at}
use Rattle.hph_sys.specs.Shape.{Shape}
use Rattle.hph_turns.proofs.Rounds.{unmet_by, met_by, of_tree, read_at, subst2_p}
use Rattle.hph_infer.proofs.Raised.{raised_typing}
use Rattle.hph_infer.proofs.Sweeps.{SweptSoFar, asks_swept, sweep_more, sweep_none, sweep_done}
use Rattle.hph_infer.proofs.rounds.sweep_pairs.Goals.{then-not-leq, else-not-leq}
use Rattle.hph_infer.proofs.rounds.sweep_pairs.Goals as goal

pub index-now-requires : goal.index-now-requires
index-now-requires g c =
    let sys : Shape = g.S.System.shape c.args.system.now in
    let law = g.met.S.System.laws c.args.system.now in
    let L : List PhpType = c.loop-cell.cells.items in
    let p : ℕ × PhpType = c.loop-cell-item.result in
    let a = asks_swept sys law c.args.s c.args.pairs.now c.loop-cell.cell-index c.loop-cell.raises c.args.cells.now.items L p c.requires.scope c.requires.pairs c.requires.typing c.loop-cell.invariant c.loop-cell-test.true c.loop-cell-item.is in
    let typing = raised_typing sys c.loop-cell.raises c.args.cells.now.items L c.loop-cell.invariant.raised c.requires.typing in
    let l = typing.len in let k = a.0 in let o = c.loop-cell.cells.ok.0 in omega arith

pub leq-requires-clause-left : goal.leq-requires-clause-left
leq-requires-clause-left g c =
    let sys : Shape = g.S.System.shape c.args.system.now in
    let law = g.met.S.System.laws c.args.system.now in
    let L : List PhpType = c.loop-cell.cells.items in
    let p : ℕ × PhpType = c.loop-cell-item.result in
    let a = asks_swept sys law c.args.s c.args.pairs.now c.loop-cell.cell-index c.loop-cell.raises c.args.cells.now.items L p c.requires.scope c.requires.pairs c.requires.typing c.loop-cell.invariant c.loop-cell-test.true c.loop-cell-item.is in
    let typing = raised_typing sys c.loop-cell.raises c.args.cells.now.items L c.loop-cell.invariant.raised c.requires.typing in
    of_tree sys.classes c.tree.result.now p.1 p.1 c.tree.ensures refl a.2

pub leq-requires-clause-right : goal.leq-requires-clause-right
leq-requires-clause-right g c =
    let sys : Shape = g.S.System.shape c.args.system.now in
    let law = g.met.S.System.laws c.args.system.now in
    let L : List PhpType = c.loop-cell.cells.items in
    let p : ℕ × PhpType = c.loop-cell-item.result in
    let a = asks_swept sys law c.args.s c.args.pairs.now c.loop-cell.cell-index c.loop-cell.raises c.args.cells.now.items L p c.requires.scope c.requires.pairs c.requires.typing c.loop-cell.invariant c.loop-cell-test.true c.loop-cell-item.is in
    let typing = raised_typing sys c.loop-cell.raises c.args.cells.now.items L c.loop-cell.invariant.raised c.requires.typing in
    let is : c.index-now.result.now ≡ at L p.0 = read_at L p.0 c.index-now.result.now (let l = typing.len in let k = a.0 in omega arith) c.index-now.ensures in
    of_tree sys.classes c.tree.result.now (at L p.0) c.index-now.result.now c.tree.ensures is (typing.types p.0)

pub join-requires-clause-left : goal.join-requires-clause-left
join-requires-clause-left g c =
    let sys : Shape = g.S.System.shape c.args.system.now in
    let law = g.met.S.System.laws c.args.system.now in
    let L : List PhpType = c.loop-cell.cells.items in
    let p : ℕ × PhpType = c.loop-cell-item.result in
    let a = asks_swept sys law c.args.s c.args.pairs.now c.loop-cell.cell-index c.loop-cell.raises c.args.cells.now.items L p c.requires.scope c.requires.pairs c.requires.typing c.loop-cell.invariant c.loop-cell-test.true c.loop-cell-item.is in
    let typing = raised_typing sys c.loop-cell.raises c.args.cells.now.items L c.loop-cell.invariant.raised c.requires.typing in
    let is : c.index-now.result.now ≡ at L p.0 = read_at L p.0 c.index-now.result.now (let l = typing.len in let k = a.0 in omega arith) c.index-now.ensures in
    of_tree sys.classes c.tree-then-not-leq.result.now (at L p.0) c.index-now.result.now c.tree-then-not-leq.ensures is (typing.types p.0)

pub join-requires-clause-right : goal.join-requires-clause-right
join-requires-clause-right g c =
    let sys : Shape = g.S.System.shape c.args.system.now in
    let law = g.met.S.System.laws c.args.system.now in
    let L : List PhpType = c.loop-cell.cells.items in
    let p : ℕ × PhpType = c.loop-cell-item.result in
    let a = asks_swept sys law c.args.s c.args.pairs.now c.loop-cell.cell-index c.loop-cell.raises c.args.cells.now.items L p c.requires.scope c.requires.pairs c.requires.typing c.loop-cell.invariant c.loop-cell-test.true c.loop-cell-item.is in
    let typing = raised_typing sys c.loop-cell.raises c.args.cells.now.items L c.loop-cell.invariant.raised c.requires.typing in
    of_tree sys.classes c.tree-then-not-leq.result.now p.1 p.1 c.tree-then-not-leq.ensures refl a.2

pub index_mut-requires : goal.index_mut-requires
index_mut-requires g c =
    let sys : Shape = g.S.System.shape c.args.system.now in
    let law = g.met.S.System.laws c.args.system.now in
    let L : List PhpType = c.loop-cell.cells.items in
    let p : ℕ × PhpType = c.loop-cell-item.result in
    let a = asks_swept sys law c.args.s c.args.pairs.now c.loop-cell.cell-index c.loop-cell.raises c.args.cells.now.items L p c.requires.scope c.requires.pairs c.requires.typing c.loop-cell.invariant c.loop-cell-test.true c.loop-cell-item.is in
    let typing = raised_typing sys c.loop-cell.raises c.args.cells.now.items L c.loop-cell.invariant.raised c.requires.typing in
    let l = typing.len in let k = a.0 in let o = c.loop-cell.cells.ok.0 in omega arith

pub loop-cell-preserved : goal.loop-cell-preserved
loop-cell-preserved g c =
    let sys : Shape = g.S.System.shape c.args.system.now in
    let law = g.met.S.System.laws c.args.system.now in
    let L : List PhpType = c.loop-cell.cells.items in
    let p : ℕ × PhpType = c.loop-cell-item.result in
    let a = asks_swept sys law c.args.s c.args.pairs.now c.loop-cell.cell-index c.loop-cell.raises c.args.cells.now.items L p c.requires.scope c.requires.pairs c.requires.typing c.loop-cell.invariant c.loop-cell-test.true c.loop-cell-item.is in
    let typing = raised_typing sys c.loop-cell.raises c.args.cells.now.items L c.loop-cell.invariant.raised c.requires.typing in
    let is : c.index-now.result.now ≡ at L p.0 = read_at L p.0 c.index-now.result.now (let l = typing.len in let k = a.0 in omega arith) c.index-now.ensures in
    let K : List PhpType = c.args.cells.now.items in
    let pairs = c.args.pairs.now in
    let i = c.loop-cell.cell-index in
    elim c.if-not-leq.branch [
      | then-not-leq b ↦ subst (λ (M : List PhpType). SweptSoFar sys pairs (i + 1) c.if-not-leq.raises K M)
          (sym (ap (λ (v : Vec Ty Global). v.items) b.cells-is ∙ ap (set L p.0) (b.join.ensures ∙ (ap (λ (x : Parents). join x c.index-now.result.now p.1) b.tree-then-not-leq.ensures ∙ ap (λ (t : PhpType). join sys.classes t p.1) is))))
          (sweep_more sys law c.args.s pairs i c.loop-cell.raises c.if-not-leq.raises K L p c.requires.scope c.requires.pairs c.requires.typing c.loop-cell.invariant c.loop-cell-test.true c.loop-cell-item.is
          (unmet_by sys.classes c.tree.result.now p.1 c.index-now.result.now (at L p.0) c.leq.result c.leq.ensures c.tree.ensures is b.if-not-leq.true)
          (let e = b.saturating_add-raises.ensures in let r = b.raises-is in omega arith))
      | else-not-leq b ↦ subst2_p (λ (M : List PhpType) (r : ℕ). SweptSoFar sys pairs (i + 1) r K M) (sym (ap (λ (v : Vec Ty Global). v.items) b.cells-is)) (sym b.raises-is)
          (sweep_none sys pairs i c.loop-cell.raises K L p c.loop-cell-test.true c.loop-cell-item.is c.loop-cell.invariant (met_by sys.classes c.tree.result.now p.1 c.index-now.result.now (at L p.0) c.leq.result c.leq.ensures c.tree.ensures is b.if-not-leq.false))
    ]

pub returns : goal.returns
returns g c = record { swept = sweep_done (g.S.System.shape c.args.system.now) c.args.s c.args.pairs.now c.loop-cell.cell-index c.loop-cell.raises c.args.cells.now.items c.loop-cell.cells.items (omega arith) c.requires.pairs c.loop-cell.invariant }
