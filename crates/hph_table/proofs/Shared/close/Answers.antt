use Rattle.std.proofs.Common.{◌≡◌, ℕ, ◌<◌, ◌≤◌, ◌+◌, ◌/◌, List, [], sym, ap, ◌∙◌, subst, arith}
use Rattle.std.specs.Mem.Slots.{slots_items}
use Rattle.hph_sys.specs.Shape.{Shape}
use Rattle.hph_core.specs.declared.view.View.{View}
use Rattle.hph_table.specs.Seats.{IsEnd}
use Rattle.atomic_table.specs.Table.{Final, Seen}
use Rattle.atomic_table.specs.Seated.{TableId}
use Rattle.hph_table.specs.declared.Plan.{Plan}
use Rattle.hph_table.specs.declared.NoSlot.{NoSlot}
use Rattle.hph_table.specs.Words.{Stands}
use Rattle.hph_table.specs.Seats.{Joined, AreAll, Read, views_of}
use Rattle.hph_table.proofs.Ending.{ended}
use Rattle.hph_table.proofs.Shared.close.Goals as goal

pub returns : goal.returns
returns g c =
    let key = c.self.inside.table.shared.key in
    let sys : Shape = g.S.System.shape key.system.value in
    let inv = c.self.invariant in
    let me : View = c.main.inside.seat.me.0 in
    let vs : me ≡ c.gather-main.result.1 = ap (λ (p : TableId × View). p.1) c.main.view_is in
    let ws = slots_items c.close_with-closed.result.words in
    let xs : List NoSlot = slots_items c.close_with-closed.result.slots in
    let final : Final (Seen (Stands sys key.workers) c.main.inside.seat.id c.gather-main.result.1) ws xs = subst (λ (v : View). Final (Seen (Stands sys key.workers) c.main.inside.seat.id v) ws xs) vs c.close_with-closed.ensures.values.2 in
    let are : AreAll c.args.self.0 key.workers c.args.seats.items = subst (λ (p : TableId × Plan g.row.S.Denot). AreAll c.args.self.0 p.1.workers c.args.seats.items) (sym c.self.view_is) c.requires.all in
    let scopes : c.self.inside.scopes ≡ sys.scopes = inv.0 in
    let read : Read ws (c.self.inside.words + c.self.inside.scopes) sys.cells c.read_cells-out.result.items = subst (λ (n : ℕ). Read ws (c.self.inside.words + c.self.inside.scopes) n c.read_cells-out.result.items) inv.1 c.read_cells-out.ensures in
    subst (λ (p : TableId × Plan g.row.S.Denot). IsEnd (g.S.System.shape p.1.system.value) (views_of c.args.seats.items) c.read_cells-out.result.items) c.self.view_is
    (ended sys key.workers c.args.self.0 c.args.seats.items c.gather-main.result c.main.inside.seat.id (c.self.inside.words + c.self.inside.scopes) ws xs c.read_cells-out.result.items inv.6 are c.gather-main.ensures final (omega (arith, inv.2, inv.0)) read)
