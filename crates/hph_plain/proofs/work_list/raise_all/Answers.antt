use Rattle.std.proofs.Common.{◌∙◌, ◌+◌, List, sym, ap, subst, arith}
use Rattle.std.specs.Prelude.{Vec}
use Rattle.std.specs.declared.alloc.Global.{Global}
use Rattle.hph_type.specs.Types.{PhpType}
use Rattle.hph_type.specs.Classes.{Parents}
use Rattle.hph_type.specs.Order.{Leq, IsOf}
use Rattle.hph_sys.specs.Shape.{Shape}
use Rattle.hph_plain.specs.Waiting.{Wakes}
use Rattle.hph_plain.proofs.Members.{in_item}
use Rattle.hph_plain.proofs.Rises.{raised-start, raised-met, raised-next, raised-all, asks-now, read-at, as-left}
use Rattle.hph_plain.proofs.work_list.raise_all.Goals as goal
use Rattle.hph_plain.proofs.work_list.raise_all.Goals.{then-not-leq+in_ok-raise, else-not-leq}

pub loop-cell-init : goal.loop-cell-init
loop-cell-init g c =
    raised-start (g.S.System.shape c.args.system.now) (g.met.S.System.laws c.args.system.now) c.args.scope
    c.args.pairs.now c.args.typing.now.items c.args.waiting.now c.requires.pairs c.requires.runs

pub index-requires : goal.index-requires
index-requires g c =
    let asks = asks-now (g.S.System.shape c.args.system.now) (g.met.S.System.laws c.args.system.now) _ _ _ _ _ _ _
    c.loop-cell-item.result c.requires.scope
    (in_item c.args.pairs.now c.loop-cell.cell-index c.loop-cell-item.result (omega arith) c.loop-cell-item.is)
    c.loop-cell.invariant in
    let len = c.loop-cell.invariant.others.low.is_typing.len in
    let within = asks.0 in
    omega (arith, len, within, c.loop-cell.typing.ok.0)

pub leq-requires-clause-left : goal.leq-requires-clause-left
leq-requires-clause-left g c =
    let asks = asks-now (g.S.System.shape c.args.system.now) (g.met.S.System.laws c.args.system.now) _ _ _ _ _ _ _
    c.loop-cell-item.result c.requires.scope
    (in_item c.args.pairs.now c.loop-cell.cell-index c.loop-cell-item.result (omega arith) c.loop-cell-item.is)
    c.loop-cell.invariant in
    subst (λ (classes : Parents). IsOf classes c.loop-cell-item.result.1) (sym c.tree.ensures) asks.1

pub leq-requires-clause-right : goal.leq-requires-clause-right
leq-requires-clause-right g c =
    let sys : Shape = g.S.System.shape c.args.system.now in
    let law = g.met.S.System.laws c.args.system.now in
    let pair = c.loop-cell-item.result in
    let asks = asks-now sys law _ _ _ _ _ _ _ pair c.requires.scope
    (in_item c.args.pairs.now c.loop-cell.cell-index pair (omega arith) c.loop-cell-item.is) c.loop-cell.invariant in
    let typed = c.loop-cell.invariant.others.low.is_typing in
    subst (λ (classes : Parents). IsOf classes c.index.result.now) (sym c.tree.ensures)
    (subst (IsOf sys.classes)
    (read-at sys law c.loop-cell.typing.items pair.0 c.index.result.now asks.0 typed c.index.ensures)
    (typed.types pair.0))

pub raise-requires-clause-cell : goal.raise-requires-clause-cell
raise-requires-clause-cell g c =
    (asks-now (g.S.System.shape c.args.system.now) (g.met.S.System.laws c.args.system.now) _ _ _ _ _ _ _
    c.loop-cell-item.result c.requires.scope
    (in_item c.args.pairs.now c.loop-cell.cell-index c.loop-cell-item.result (omega arith) c.loop-cell-item.is)
    c.loop-cell.invariant).0

pub raise-requires-clause-ty : goal.raise-requires-clause-ty
raise-requires-clause-ty g c =
    (asks-now (g.S.System.shape c.args.system.now) (g.met.S.System.laws c.args.system.now) _ _ _ _ _ _ _
    c.loop-cell-item.result c.requires.scope
    (in_item c.args.pairs.now c.loop-cell.cell-index c.loop-cell-item.result (omega arith) c.loop-cell-item.is)
    c.loop-cell.invariant).1

pub loop-cell-preserved : goal.loop-cell-preserved
loop-cell-preserved g c =
    let sys : Shape = g.S.System.shape c.args.system.now in
    let law = g.met.S.System.laws c.args.system.now in
    let pairs = c.args.pairs.now in
    let i = c.loop-cell.cell-index in
    let pair = c.loop-cell-item.result in
    let was = c.loop-cell.invariant in
    let typed = was.others.low.is_typing in
    let stands = in_item pairs i pair (omega arith) c.loop-cell-item.is in
    let asks = asks-now sys law _ _ _ _ _ _ _ pair c.requires.scope stands was in
    let read = read-at sys law c.loop-cell.typing.items pair.0 c.index.result.now asks.0 typed c.index.ensures in
    let typings : Vec PhpType Global → List PhpType = λ v. v.items in
    elim c.if-not-leq.branch [
      | then-not-leq+in_ok-raise w ↦
          raised-next sys law c.args.scope pairs i c.args.typing.now.items c.loop-cell.typing.items
          c.if-not-leq.typing.items c.args.waiting.now c.loop-cell.waiting c.if-not-leq.waiting pair pair
          c.requires.scope (omega arith) c.loop-cell-item.is stands was
          (ap typings w.typing-is ∙ w.in_ok-raise.ensures.risen)
          (subst (Wakes (sys.readers pair.0) c.loop-cell.waiting) (sym w.waiting-is) w.in_ok-raise.ensures.wakes)
          (λ met.
          let yes = c.leq.ensures.1 (subst (λ (classes : Parents). Leq classes pair.1 c.index.result.now) (sym c.tree.ensures)
          (subst (Leq sys.classes pair.1) read met)) in
          absurd (let f = w.if-not-leq.true in cc))
      | else-not-leq w ↦
          as-left sys law c.args.scope pairs (i + 1) c.args.typing.now.items c.loop-cell.typing.items
          c.if-not-leq.typing.items c.args.waiting.now c.loop-cell.waiting c.if-not-leq.waiting
          (ap typings w.typing-is) w.waiting-is
          (raised-met sys law c.args.scope pairs i c.args.typing.now.items c.loop-cell.typing.items c.args.waiting.now
          c.loop-cell.waiting pair pair (omega arith) c.loop-cell-item.is was
          (subst (Leq sys.classes pair.1) (sym read)
          (subst (λ (classes : Parents). Leq classes pair.1 c.index.result.now) c.tree.ensures
          (c.leq.ensures.0 (let f = w.if-not-leq.false in cc)))))
    ]

pub returns-clause-runs : goal.returns-clause-runs
returns-clause-runs g c =
    raised-all (g.S.System.shape c.args.system.now) (g.met.S.System.laws c.args.system.now) c.args.scope
    c.args.pairs.now c.loop-cell.cell-index c.args.typing.now.items c.loop-cell.typing.items c.args.waiting.now
    c.loop-cell.waiting (omega arith) c.loop-cell.invariant
