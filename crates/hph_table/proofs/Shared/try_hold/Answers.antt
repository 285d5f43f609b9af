use Rattle.std.proofs.Common.{rules, ◌≡◌, ◌≢◌, ◌<◌, ◌≤◌, ◌+◌, ◌-◌, ◌*◌, ◌/◌, ◌%◌, ◌^◌, true, false, Bool, not, eqb, ℕ, List, [], ◌∷◌, Some, None, sym, refl, ap, ◌∙◌, subst, arith}
use Rattle.std.specs.Int.{bit_at, bit_not, trailing_zeros}
use mir.Syntax.{w64}
use Rattle.hph_core.specs.Effects.{mask}
use Rattle.hph_type.specs.Types.{PhpType}
use Rattle.hph_type.specs.Codes.{code}
use Rattle.hph_sys.specs.Shape.{Shape}
use Rattle.hph_sys.specs.Typings.{In}
use Rattle.hph_type.specs.Order.{IsOf}
use Rattle.hph_core.specs.declared.view.View.{View}
use Rattle.hph_core.specs.Effects.{after_peek, after_take, after_mark, after_put_back, after_try, after_release, after_read, after_raise, after_add, after_pay, after_done, after_pending}
use Rattle.hph_core.specs.Conditions.{MayPutBack, MayMark}
use Rattle.hph_core.specs.Rule.{one_if}
use Rattle.atomic_table.specs.Table.{Me, Step, step}
use Rattle.atomic_table.specs.Seated.{TableId}
use mathlib.Core.Option.{none}
use Rattle.hph_table.specs.declared.NoSlot.{NoSlot}
use Rattle.hph_table.specs.declared.Plan.{Plan}
use Rattle.hph_table.specs.Tells.{Peeks, Takes, Marks, PutsBack, Tries, Releases, Reads, Raises, Adds, Pays, Finishes, Waits, BitsIn}
use Rattle.hph_table.specs.Views.{RaisesSeen, FinishesSeen}
use Rattle.hph_core.specs.Events.{of_hand}
use Rattle.hph_table.proofs.Moves as mv
use Rattle.hph_table.proofs.Codes as codes
use Rattle.hph_table.proofs.Shared.try_hold.Goals as goal
use Rattle.hph_table.specs.Holds.{Tried}
use Rattle.hph_core.specs.declared.event.Hold.{Hold}
use Rattle.hph_table.proofs.Shared.try_hold.Goals.{then-found-eq0, else-found-eq0}

pub compare_exchange-found-requires : goal.compare_exchange-found-requires
compare_exchange-found-requires g c =
    let key = c.self.inside.table.shared.key in
    let sys : Shape = g.S.System.shape key.system.value in
    let inv = c.self.invariant in
    let me : Me NoSlot View = c.seat.inside.seat.me in
    let slots = c.self.inside.table.shared.table_id.slots in
    let id = c.seat.inside.seat.id in
    let vs : me.0 ≡ c.args.seat.now.1 = ap (λ (p : TableId × View). p.1) c.seat.view_is in
    let ids : c.seat.inside.seat.table_id ≡ c.args.seat.now.0 = ap (λ (p : TableId × View). p.0) c.seat.view_is in
    let tid : c.self.inside.table.shared.table_id ≡ c.args.self.now.0 = ap (λ (p : TableId × Plan g.row.S.Denot). p.0) c.self.view_is in
    let live : me.0.live ≡ true = ap (λ (v : View). v.live) vs ∙ c.requires.live in
    let i : c.seat.inside.number ≡ me.0.number = c.seat.invariant.0 in
    let scope : c.args.scope < sys.scopes = subst (λ (p : TableId × Plan g.row.S.Denot). c.args.scope < (g.S.System.shape p.1.system.value).scopes) (sym c.self.view_is) c.requires.scope in (
      ids ∙ (c.requires.seat ∙ sym tid),
      omega (arith, inv.0, inv.1, inv.2, inv.3, scope),
      rw i (mv.tries_as sys (g.met.S.System.laws key.system.value) key.workers slots id me live c.args.scope scope (c.self.inside.words + c.args.scope) (omega (arith, inv.2, inv.0)) (step slots (c.self.inside.words + c.args.scope) 0 (me.0.number + 1) none) (c.self.inside.words + c.args.scope - (sys.scopes + 63) / 64) (omega (arith, inv.2, inv.0)) (λ x. c.requires.may (subst (λ (v : View). In c.args.scope v.holds) vs x))),
    )

pub invariant_of-seat : goal.invariant_of-seat
invariant_of-seat g c =
    let e = let inv = c.self.invariant in let sys : Shape = g.S.System.shape c.self.inside.table.shared.key.system.value in mv.retell (λ (d : ℕ). after_try c.seat.inside.seat.me.0 d c.compare_exchange-found.result) c.compare_exchange-found.new.seat.me c.seat.inside.seat.me.1 (c.self.inside.words + c.args.scope - (sys.scopes + 63) / 64) c.args.scope (omega (arith, inv.2, inv.0)) c.compare_exchange-found.ensures.2.0 in
    let i = c.seat.invariant in (
      i.0 ∙ (sym (mv.try_number c.seat.inside.seat.me.0 c.args.scope c.compare_exchange-found.result) ∙ ap (λ (m : Me NoSlot View). m.0.number) (sym e)),
      i.1,
      ap (λ (m : Me NoSlot View). m.1) e ∙ i.2,
      i.3 ∙ mv.try_debt c.seat.inside.seat.me.0 c.args.scope c.compare_exchange-found.result ∙ ap (λ (m : Me NoSlot View). m.0.debt) (sym e),
    )

pub returns-clause-view : goal.returns-clause-view
returns-clause-view g c =
    let e = let inv = c.self.invariant in let sys : Shape = g.S.System.shape c.self.inside.table.shared.key.system.value in mv.retell (λ (d : ℕ). after_try c.seat.inside.seat.me.0 d c.compare_exchange-found.result) c.compare_exchange-found.new.seat.me c.seat.inside.seat.me.1 (c.self.inside.words + c.args.scope - (sys.scopes + 63) / 64) c.args.scope (omega (arith, inv.2, inv.0)) c.compare_exchange-found.ensures.2.0 in
    let vs : c.seat.inside.seat.me.0 ≡ c.args.seat.now.1 = ap (λ (p : TableId × View). p.1) c.seat.view_is in
    let t = c.compare_exchange-found.ensures.2 in
    let w = c.compare_exchange-found.new.seat.me.0 in
    let f : w ≡ after_try c.args.seat.now.1 c.args.scope c.compare_exchange-found.result = ap (λ (m : Me NoSlot View). m.0) e ∙ ap (λ (v : View). after_try v c.args.scope c.compare_exchange-found.result) vs in
    elim c.if-found-eq0.branch [
      | then-found-eq0 b ↦ subst (λ (h : Hold). Tried c.args.seat.now.1 c.args.scope h w) (sym b.result-is) (mv.got_tried c.args.seat.now.1 w c.args.scope c.compare_exchange-found.result f b.if-found-eq0.true)
      | else-found-eq0 b ↦ subst (λ (h : Hold). Tried c.args.seat.now.1 c.args.scope h w) (sym b.result-is) (mv.busy_tried c.args.seat.now.1 w c.args.scope c.compare_exchange-found.result f (λ z. b.if-found-eq0.false z) t.1 (λ x. t.2 (x ∙ ap (λ (v : View). v.number + 1) (sym vs))))
    ]

pub overflow_cast-result : goal.overflow_cast-result
overflow_cast-result g c = let t = c.compare_exchange-found.ensures.2.1 in search rules
