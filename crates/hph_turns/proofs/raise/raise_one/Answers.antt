use Rattle.std.proofs.Common.{◌≡◌, ℕ, ◌<◌, List, set, subst, sym, ap, ◌∙◌, arith}
use Rattle.hph_type.specs.Types.{PhpType}
use Rattle.hph_sys.specs.Typings.{In, at}
use Rattle.hph_sys.specs.Shape.{Shape}
use Rattle.hph_type.specs.Order.{join}
use Rattle.hph_type.specs.Classes.{Parents}
use Rattle.hph_table.specs.Views.{RaisesSeen}
use Rattle.hph_turns.specs.Phases.{IsAtWork}
use Rattle.hph_turns.proofs.Rounds.{may_raise, raised_work, read_at}
use Rattle.hph_core.specs.Effects.{after_raise}
use Rattle.hph_turns.proofs.raise.raise_one.Goals as goal

pub mark_all-requires-clause-owner : goal.mark_all-requires-clause-owner
mark_all-requires-clause-owner g c = subst (λ (k : ℕ). In k c.args.seat.now.1.holds) (sym c.owner-owner.ensures) (c.requires.at_work.just.all _ c.requires.cell.1)

pub mark_all-requires-clause-readers : goal.mark_all-requires-clause-readers
mark_all-requires-clause-readers g c r i =
    let sys : Shape = g.S.System.shape c.args.system.now in
    let law = g.met.S.System.laws c.args.system.now in
    let i' : In r (sys.readers c.args.cell) = subst (In r) c.readers.ensures i in
    let in_range = law.readers_in c.args.cell r c.requires.cell.0 i' in (
      subst (λ (x : g.row.S.Denot). r < (g.S.System.shape x).scopes) (sym c.requires.system) in_range,
      subst (λ (x : g.row.S.Denot). In c.owner-owner.result ((g.S.System.shape x).look r)) (sym c.requires.system) (subst (λ (k : ℕ). In k (sys.look r)) (sym c.owner-owner.ensures) (law.reads_look r c.args.cell c.requires.cell.0 i')),
    )

pub raise-requires-clause-may : goal.raise-requires-clause-may
raise-requires-clause-may g c =
    let sys : Shape = g.S.System.shape c.args.system.now in
    let law = g.met.S.System.laws c.args.system.now in
    let K : List PhpType = c.args.known.now.items in
    let is : c.join-risen.result ≡ join sys.classes (at K c.args.cell) c.args.ty = c.join-risen.ensures ∙ (ap (λ (x : Parents). join x c.index.result.now c.args.ty) c.tree.ensures ∙ ap (λ (t : PhpType). join sys.classes t c.args.ty) (read_at K c.args.cell c.index.result.now (let l = c.requires.at_work.knows.typing.len in let k = c.requires.cell.0 in omega arith) c.index.ensures)) in
    let marked : (r : ℕ) → In r (sys.readers c.args.cell) → In r c.mark_all.new.seat.1.marks = λ r i. c.mark_all.ensures.marked r (subst (In r) (sym c.readers.ensures) i) in
    let may : RaisesSeen sys c.mark_all.new.seat.1 c.args.s c.args.cell (join sys.classes (at K c.args.cell) c.args.ty) K =
    may_raise sys law c.args.seat.now.1 c.mark_all.new.seat.1 c.args.seat.now.1.number c.args.s c.args.cell c.args.ty K c.requires.at_work c.mark_all.ensures.hand c.mark_all.ensures.same.0 c.mark_all.ensures.same.1 marked c.requires.cell.0 c.requires.cell.1 c.requires.asks.0 c.requires.asks.1 c.requires.unmet in
    (c.args.s, (K, subst (λ (x : g.row.S.Denot). RaisesSeen (g.S.System.shape x) c.mark_all.new.seat.1 c.args.s c.args.cell c.join-risen.result K) (sym c.requires.system) (subst (λ (t : PhpType). RaisesSeen sys c.mark_all.new.seat.1 c.args.s c.args.cell t K) (sym is) may)))

pub returns-clause-at_work : goal.returns-clause-at_work
returns-clause-at_work g c =
    let sys : Shape = g.S.System.shape c.args.system.now in
    let K : List PhpType = c.args.known.now.items in
    let is : c.join-risen.result ≡ join sys.classes (at K c.args.cell) c.args.ty = c.join-risen.ensures ∙ (ap (λ (x : Parents). join x c.index.result.now c.args.ty) c.tree.ensures ∙ ap (λ (t : PhpType). join sys.classes t c.args.ty) (read_at K c.args.cell c.index.result.now (let l = c.requires.at_work.knows.typing.len in let k = c.requires.cell.0 in omega arith) c.index.ensures)) in
    let e : c.raise.new.seat.1 ≡ after_raise c.mark_all.new.seat.1 c.args.cell (sys.owner c.args.cell) (join sys.classes (at K c.args.cell) c.args.ty) =
    c.raise.ensures.view ∙ (ap (λ (x : g.row.S.Denot). after_raise c.mark_all.new.seat.1 c.args.cell ((g.S.System.shape x).owner c.args.cell) c.join-risen.result) c.requires.system ∙ ap (after_raise c.mark_all.new.seat.1 c.args.cell (sys.owner c.args.cell)) is) in
    subst (λ (t : PhpType). IsAtWork sys c.raise.new.seat.1 c.args.seat.now.1.number c.args.s (set K c.args.cell t)) (sym is)
    (raised_work sys c.args.seat.now.1 c.mark_all.new.seat.1 c.raise.new.seat.1 c.args.seat.now.1.number c.args.s c.args.cell c.args.ty K c.requires.at_work c.mark_all.ensures.hand c.mark_all.ensures.same.0 c.mark_all.ensures.same.1 c.requires.cell.0 c.requires.asks.0 e)
