use Rattle.std.proofs.Common.{ℕ, ◌<◌, subst, sym}
use Rattle.hph_sys.specs.Typings.{In}
use Rattle.hph_sys.specs.Shape.{Shape}
use Rattle.hph_turns.specs.Phases.{IsAtWork, HoldsJust}
use Rattle.hph_table.specs.Views.{MayDrop}
use Rattle.hph_turns.proofs.Rounds.{at_work, may_drop, dropped}
use Rattle.hph_core.specs.declared.view.View.{View}
use Rattle.hph_core.specs.declared.view.Finding.TheVariants.{Pending}
use Rattle.hph_core.proofs.Sums.{in_last}
use Rattle.hph_turns.proofs.turn.take_turn.Goals as goal

pub hold_all-requires-clause-scopes : goal.hold_all-requires-clause-scopes
hold_all-requires-clause-scopes g c d i =
    let sys : Shape = g.S.System.shape c.args.system.now in
    let law = g.met.S.System.laws c.args.system.now in
    let s_in : c.in-Some.s < sys.scopes = subst (λ (n : ℕ). c.in-Some.s < n) c.scopes.ensures c.in-Some.ensures.some.0 in
    subst (λ (x : g.row.S.Denot). d < (g.S.System.shape x).scopes) (sym c.requires.system) (law.look_in c.in-Some.s d s_in (subst (In d) c.look-look.ensures i))

pub settle-requires-clause-at_work : goal.settle-requires-clause-at_work
settle-requires-clause-at_work g c =
    let sys : Shape = g.S.System.shape c.args.system.now in
    let s_in : c.in-Some.s < sys.scopes = subst (λ (n : ℕ). c.in-Some.s < n) c.scopes.ensures c.in-Some.ensures.some.0 in
    let r = c.hold_all.ensures.rest in
    let w = at_work sys c.find.new.seat.1 c.hold_all.new.seat.1 c.read_cells.new.seat.1 c.args.seat.now.1.number c.in-Some.s c.look-look.result.now c.read_cells.new.known.items s_in c.look-look.ensures c.in-Some.ensures.some.1 r.0 r.1 r.2 r.3 c.in_default-hold_all.ensures.all c.read_cells.ensures.frame c.read_cells.ensures.known in
    subst (λ (n : ℕ). IsAtWork sys c.read_cells.new.seat.1 n c.in-Some.s c.read_cells.new.known.items) (sym w.hand.number) w

pub pending_drop-requires-2-clause-may : goal.pending_drop-requires-2-clause-may
pending_drop-requires-2-clause-may g c =
    let sys : Shape = g.S.System.shape c.args.system.now in
    let law = g.met.S.System.laws c.args.system.now in
    subst (λ (x : g.row.S.Denot). MayDrop (g.S.System.shape x) c.settle.new.seat.1) (sym c.requires.system) (may_drop sys law c.settle.new.seat.1 c.read_cells.new.seat.1.number c.in-Some.s c.settle.new.known.items c.in_ok-settle.ensures.at_work c.in_ok-settle.ensures.met)

pub release_all-requires-clause-scopes : goal.release_all-requires-clause-scopes
release_all-requires-clause-scopes g c d i =
    let sys : Shape = g.S.System.shape c.args.system.now in
    let law = g.met.S.System.laws c.args.system.now in
    let s_in : c.in-Some.s < sys.scopes = subst (λ (n : ℕ). c.in-Some.s < n) c.scopes.ensures c.in-Some.ensures.some.0 in
    subst (λ (x : g.row.S.Denot). d < (g.S.System.shape x).scopes) (sym c.requires.system) (law.look_in c.in-Some.s d s_in (subst (In d) c.look-look.ensures i))

pub release_all-requires-clause-just : goal.release_all-requires-clause-just
release_all-requires-clause-just g c =
    let sys : Shape = g.S.System.shape c.args.system.now in
    let d = dropped sys c.settle.new.seat.1 c.pending_drop-2.new.seat.1 c.read_cells.new.seat.1.number c.in-Some.s c.settle.new.known.items c.in_ok-settle.ensures.at_work c.pending_drop-2.ensures.view in
    subst (HoldsJust c.pending_drop-2.new.seat.1) (sym c.look-look.ensures) d.0

pub returns-in_default-clause-pending : goal.returns-in_default-clause-pending
returns-in_default-clause-pending g c = subst (λ (v : View). In (Pending c.pending-left.result) v.findings) (sym c.pending-left.ensures.view) (in_last (Pending c.pending-left.result) c.find.new.seat.1.findings)
