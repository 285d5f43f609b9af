use Rattle.std.proofs.Common.{rules, ◌≡◌, ◌<◌, ◌≤◌, ◌+◌, true, ℕ, [], sym, ap, ◌∙◌, subst, arith}
use Rattle.hph_sys.specs.Shape.{Shape}
use Rattle.hph_core.specs.declared.view.View.{View}
use Rattle.atomic_table.specs.Table.{Me}
use Rattle.atomic_table.specs.Seated.{TableId}
use Rattle.hph_table.specs.declared.NoSlot.{NoSlot}
use Rattle.hph_table.specs.declared.Plan.{Plan}
use Rattle.hph_table.proofs.Seating.{splits}
use Rattle.hph_table.proofs.Shared.split.Goals as goal

pub split_seat-seat-requires : goal.split_seat-seat-requires
split_seat-seat-requires g c =
    let key = c.self.inside.table.shared.key in
    let sys : Shape = g.S.System.shape key.system.value in
    let inv = c.self.invariant in
    let me : Me NoSlot View = c.first.inside.seat.me in
    let vs : me.0 ≡ c.args.first.now.1 = ap (λ (p : TableId × View). p.1) c.first.view_is in
    let ids : c.first.inside.seat.table_id ≡ c.args.first.now.0 = ap (λ (p : TableId × View). p.0) c.first.view_is in
    let tid : c.self.inside.table.shared.table_id ≡ c.args.self.now.0 = ap (λ (p : TableId × Plan g.row.S.Denot). p.0) c.self.view_is in
    let room : c.args.number < key.workers = subst (λ (p : TableId × Plan g.row.S.Denot). c.args.number < p.1.workers) (sym c.self.view_is) c.requires.room in
    let top : me.0.top ≡ c.args.first.now.1.top = ap (λ (v : View). v.top) vs in
    let num = c.requires.number in (
      ids ∙ (c.requires.table ∙ sym tid),
      omega (arith, inv.3),
      splits sys (g.met.S.System.laws key.system.value) key.workers inv.6 c.first.inside.seat.id me.0 (ap (λ (v : View). v.live) vs ∙ c.requires.live) (ap (λ (v : View). v.number) vs ∙ c.requires.first) (omega arith),
    )
