use Rattle.std.proofs.Common.{rules, ◌≡◌, ◌≢◌, ◌<◌, ◌≤◌, ◌+◌, ◌-◌, ◌*◌, ◌/◌, ◌%◌, ◌^◌, true, false, Bool, not, eqb, ℕ, List, [], ◌∷◌, Some, None, sym, refl, ap, ◌∙◌, subst, arith}
use Rattle.std.specs.Int.{bit_at, bit_not, trailing_zeros}
use mir.Syntax.{w64}
use Rattle.hph_core.specs.Effects.{mask}
use Rattle.hph_type.specs.Types.{PhpType}
use Rattle.hph_type.specs.Codes.{code}
use Rattle.hph_sys.specs.Shape.{Shape}
use Rattle.hph_sys.specs.Typings.{In}
use Rattle.hph_type.specs.Order.{IsOf}
use Rattle.hph_core.specs.declared.view.View.{View}
use Rattle.hph_core.specs.Effects.{after_peek, after_take, after_mark, after_put_back, after_try, after_release, after_read, after_raise, after_add, after_pay, after_done, after_pending}
use Rattle.hph_core.specs.Conditions.{MayPutBack, MayMark}
use Rattle.hph_core.specs.Rule.{one_if}
use Rattle.atomic_table.specs.Table.{Me, Step, step}
use Rattle.atomic_table.specs.Seated.{TableId}
use mathlib.Core.Option.{none}
use Rattle.hph_table.specs.declared.NoSlot.{NoSlot}
use Rattle.hph_table.specs.declared.Plan.{Plan}
use Rattle.hph_table.specs.Tells.{Peeks, Takes, Marks, PutsBack, Tries, Releases, Reads, Raises, Adds, Pays, Finishes, Waits, BitsIn}
use Rattle.hph_table.specs.Views.{RaisesSeen, FinishesSeen}
use Rattle.hph_core.specs.Events.{of_hand}
use Rattle.hph_table.proofs.Moves as mv
use Rattle.hph_table.proofs.Codes as codes
use Rattle.hph_table.proofs.Shared.raise.Goals as goal

pub store-requires : goal.store-requires
store-requires g c =
    let key = c.self.inside.table.shared.key in
    let sys : Shape = g.S.System.shape key.system.value in
    let inv = c.self.invariant in
    let me : Me NoSlot View = c.seat.inside.seat.me in
    let slots = c.self.inside.table.shared.table_id.slots in
    let id = c.seat.inside.seat.id in
    let vs : me.0 ≡ c.args.seat.now.1 = ap (λ (p : TableId × View). p.1) c.seat.view_is in
    let ids : c.seat.inside.seat.table_id ≡ c.args.seat.now.0 = ap (λ (p : TableId × View). p.0) c.seat.view_is in
    let tid : c.self.inside.table.shared.table_id ≡ c.args.self.now.0 = ap (λ (p : TableId × Plan g.row.S.Denot). p.0) c.self.view_is in
    let live : me.0.live ≡ true = ap (λ (v : View). v.live) vs ∙ c.requires.live in
    let i : c.seat.inside.number ≡ me.0.number = c.seat.invariant.0 in
    let cell : c.args.cell < sys.cells = subst (λ (p : TableId × Plan g.row.S.Denot). c.args.cell < (g.S.System.shape p.1.system.value).cells) (sym c.self.view_is) c.requires.cell in
    let seen : (s : ℕ) × ((K : List PhpType) × RaisesSeen sys me.0 s c.args.cell c.args.ty K) = subst (λ (p : TableId × Plan g.row.S.Denot). (s : ℕ) × ((K : List PhpType) × RaisesSeen (g.S.System.shape p.1.system.value) me.0 s c.args.cell c.args.ty K)) (sym c.self.view_is) (subst (λ (v : View). (s : ℕ) × ((K : List PhpType) × RaisesSeen (g.S.System.shape c.args.self.now.1.system.value) v s c.args.cell c.args.ty K)) (sym vs) c.requires.may) in (
      ids ∙ (c.requires.seat ∙ sym tid),
      omega (arith, inv.0, inv.1, inv.2, inv.3, cell),
      rw c.code.ensures (mv.raises_as sys (g.met.S.System.laws key.system.value) key.workers slots id me live (step slots (c.self.inside.words + (c.self.inside.scopes + c.args.cell)) (code c.args.ty) 0 none) seen.0 c.args.cell c.args.ty seen.1.0 seen.1.1 (c.self.inside.words + (c.self.inside.scopes + c.args.cell)) (omega (arith, inv.2, inv.0)) (c.self.inside.words + (c.self.inside.scopes + c.args.cell) - ((sys.scopes + 63) / 64 + sys.scopes)) (omega (arith, inv.2, inv.0)) (codes.decode (code c.args.ty)) (codes.of_code_code sys.classes c.args.ty seen.1.1.typed)),
    )

pub invariant_of-seat : goal.invariant_of-seat
invariant_of-seat g c =
    let e = let inv = c.self.invariant in let sys : Shape = g.S.System.shape c.self.inside.table.shared.key.system.value in mv.retell (λ (d : ℕ). after_raise c.seat.inside.seat.me.0 d (sys.owner d) c.args.ty) c.store.new.seat.me c.seat.inside.seat.me.1 (c.self.inside.words + (c.self.inside.scopes + c.args.cell) - ((sys.scopes + 63) / 64 + sys.scopes)) c.args.cell (omega (arith, inv.2, inv.0)) (c.store.ensures.2 ∙ sym (mv.at_type (g.S.System.shape c.args.self.now.1.system.value).classes (after_raise c.seat.inside.seat.me.0 (c.self.inside.words + (c.self.inside.scopes + c.args.cell) - ((sys.scopes + 63) / 64 + sys.scopes)) (sys.owner (c.self.inside.words + (c.self.inside.scopes + c.args.cell) - ((sys.scopes + 63) / 64 + sys.scopes)))) c.seat.inside.seat.me.1 c.args.ty c.code.result c.code.ensures c.requires.may.1.1.typed)) in
    let i = c.seat.invariant in (
      i.0 ∙ (refl ∙ ap (λ (m : Me NoSlot View). m.0.number) (sym e)),
      i.1,
      ap (λ (m : Me NoSlot View). m.1) e ∙ i.2,
      i.3 ∙ ap (λ (m : Me NoSlot View). m.0.debt) (sym e),
    )

pub returns-clause-view : goal.returns-clause-view
returns-clause-view g c =
    let e = let inv = c.self.invariant in let sys : Shape = g.S.System.shape c.self.inside.table.shared.key.system.value in mv.retell (λ (d : ℕ). after_raise c.seat.inside.seat.me.0 d (sys.owner d) c.args.ty) c.store.new.seat.me c.seat.inside.seat.me.1 (c.self.inside.words + (c.self.inside.scopes + c.args.cell) - ((sys.scopes + 63) / 64 + sys.scopes)) c.args.cell (omega (arith, inv.2, inv.0)) (c.store.ensures.2 ∙ sym (mv.at_type (g.S.System.shape c.args.self.now.1.system.value).classes (after_raise c.seat.inside.seat.me.0 (c.self.inside.words + (c.self.inside.scopes + c.args.cell) - ((sys.scopes + 63) / 64 + sys.scopes)) (sys.owner (c.self.inside.words + (c.self.inside.scopes + c.args.cell) - ((sys.scopes + 63) / 64 + sys.scopes)))) c.seat.inside.seat.me.1 c.args.ty c.code.result c.code.ensures c.requires.may.1.1.typed)) in
    let vs : c.seat.inside.seat.me.0 ≡ c.args.seat.now.1 = ap (λ (p : TableId × View). p.1) c.seat.view_is in
    subst (λ (p : TableId × Plan g.row.S.Denot). c.store.new.seat.me.0 ≡ after_raise c.args.seat.now.1 c.args.cell ((g.S.System.shape p.1.system.value).owner c.args.cell) c.args.ty) c.self.view_is (ap (λ (m : Me NoSlot View). m.0) e ∙ ap (λ (v : View). after_raise v c.args.cell ((g.S.System.shape c.self.inside.table.shared.key.system.value).owner c.args.cell) c.args.ty) vs)
