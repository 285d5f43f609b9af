use Rattle.std.proofs.Common.{ℕ, ◌+◌, List, subst, sym, ap, ◌∙◌, arith}
use Rattle.hph_type.specs.Types.{PhpType}
use Rattle.hph_type.specs.Order.{IsOf}
use Rattle.hph_sys.specs.Typings.{In}
use Rattle.hph_sys.specs.Shape.{Shape}
use Rattle.hph_core.specs.Effects.{after_read}
use Rattle.hph_turns.proofs.Steps.{P}
use Rattle.hph_turns.proofs.Rounds.{ReadSoFar, read_step, read_skip}
use Rattle.std.specs.Prelude.{IsTrue, Vec}
use Rattle.std.specs.declared.alloc.Global.{Global}
use Rattle.hph_turns.proofs.Rounds.{subst2_p, not_both}
use Rattle.hph_turns.proofs.cells.read_cells.Goals as goal
use Rattle.hph_turns.proofs.cells.read_cells.Goals.{then-has, else-has}

pub cell-requires-clause-may : goal.cell-requires-clause-may
cell-requires-clause-may g c =
    let sys : Shape = g.S.System.shape c.args.system.now in
    let looked : In (sys.owner c.loop-c.c) c.args.look.now = subst (λ (k : ℕ). In k c.args.look.now) c.owner.ensures (c.has.ensures.0 c.if-has.true) in
    let held : In (sys.owner c.loop-c.c) c.loop-c.seat.1.holds = subst (In (sys.owner c.loop-c.c)) (sym c.loop-c.invariant.frame.holds) (c.requires.held (sys.owner c.loop-c.c) looked) in
    subst (λ (x : g.row.S.Denot). In ((g.S.System.shape x).owner c.loop-c.c) c.loop-c.seat.1.holds) (sym c.requires.system) held

pub loop-c-preserved : goal.loop-c-preserved
loop-c-preserved g c =
    let sys : Shape = g.S.System.shape c.args.system.now in
    let id = c.args.shared.now.0 in
    elim c.if-has.branch [
      | then-has b ↦ subst2_p (λ (q : P) (K : List PhpType). ReadSoFar sys id c.args.seat.now q c.args.look.now (c.loop-c.c + 1) K) (sym b.seat-is) (sym (ap (λ (v : Vec PhpType Global). v.items) b.known-is))
          (read_step sys id c.args.seat.now c.loop-c.seat b.cell.new.seat c.args.look.now c.loop-c.c c.loop-c.known.items b.cell.result (let t = c.cells-c-end.ensures in omega arith) c.loop-c.invariant b.cell.ensures.seat (b.cell.ensures.view ∙ ap (λ (x : g.row.S.Denot). after_read c.loop-c.seat.1 c.loop-c.c ((g.S.System.shape x).owner c.loop-c.c) b.cell.result) c.requires.system) (subst (λ (x : g.row.S.Denot). IsOf (g.S.System.shape x).classes b.cell.result) c.requires.system b.cell.ensures.typed))
      | else-has b ↦ subst2_p (λ (q : P) (K : List PhpType). ReadSoFar sys id c.args.seat.now q c.args.look.now (c.loop-c.c + 1) K) (sym b.seat-is) (sym (ap (λ (v : Vec PhpType Global). v.items) b.known-is))
          (read_skip sys id c.args.seat.now c.loop-c.seat c.args.look.now c.loop-c.c c.loop-c.known.items c.loop-c.invariant (λ i. let t : IsTrue c.has.result = c.has.ensures.1 (subst (λ (k : ℕ). In k c.args.look.now) (sym c.owner.ensures) i) in let f = b.if-has.false in not_both c.has.result t f))
    ]

pub returns-clause-known : goal.returns-clause-known
returns-clause-known g c = record { typing = c.loop-c.invariant.typing; cells = λ d l i. c.loop-c.invariant.cells d (omega arith) i }
