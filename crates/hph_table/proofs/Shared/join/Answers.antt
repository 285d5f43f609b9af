use Rattle.std.proofs.Common.{rules, ◌≡◌, ◌<◌, ◌≤◌, ◌+◌, true, ℕ, [], sym, ap, ◌∙◌, subst, arith}
use Rattle.hph_sys.specs.Shape.{Shape}
use Rattle.hph_core.specs.declared.view.View.{View}
use Rattle.hph_core.specs.Conditions.{IsIdle}
use Rattle.atomic_table.specs.Table.{Me}
use Rattle.atomic_table.specs.Seated.{TableId}
use Rattle.hph_table.specs.declared.NoSlot.{NoSlot}
use Rattle.hph_table.specs.declared.Plan.{Plan}
use Rattle.hph_table.proofs.Seating.{joins}
use Rattle.hph_table.proofs.Shared.join.Goals as goal

pub join_seat-requires : goal.join_seat-requires
join_seat-requires g c =
    let key = c.self.inside.table.shared.key in
    let sys : Shape = g.S.System.shape key.system.value in
    let inv = c.self.invariant in
    let one : Me NoSlot View = c.one.inside.seat.me in
    let other : Me NoSlot View = c.other.inside.seat.me in
    let v1 : one.0 ≡ c.args.one.now.1 = ap (λ (p : TableId × View). p.1) c.one.view_is in
    let i1 : c.one.inside.seat.table_id ≡ c.args.one.now.0 = ap (λ (p : TableId × View). p.0) c.one.view_is in
    let v2 : other.0 ≡ c.args.other.1 = ap (λ (p : TableId × View). p.1) c.other.view_is in
    let i2 : c.other.inside.seat.table_id ≡ c.args.other.0 = ap (λ (p : TableId × View). p.0) c.other.view_is in
    let tid : c.self.inside.table.shared.table_id ≡ c.args.self.now.0 = ap (λ (p : TableId × Plan g.row.S.Denot). p.0) c.self.view_is in
    let idle : IsIdle other.0 = subst IsIdle (sym v2) c.requires.other.1 in (
      i1 ∙ (c.requires.one.0 ∙ sym tid),
      i2 ∙ (c.requires.other.0 ∙ sym tid),
      c.other.invariant.2,
      omega (arith, inv.3),
      joins sys (g.met.S.System.laws key.system.value) key.workers inv.6 c.one.inside.seat.id one.0 (ap (λ (v : View). v.live) v1 ∙ c.requires.one.1) c.other.inside.seat.id other.0 idle.live idle,
    )
