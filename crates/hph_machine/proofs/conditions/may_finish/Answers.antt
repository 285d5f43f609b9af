use Rattle.std.proofs.Common.{◌≡◌, ℕ, ◌<◌, sym, subst, ◌∙◌, false}
use Rattle.hph_type.specs.Classes.{Parents}
use Rattle.hph_type.specs.Order.{Leq, IsOf}
use Rattle.hph_sys.specs.Typings.{In, at}
use Rattle.hph_machine.proofs.conditions.may_finish.Goals as goal

pub are_met-requires-clause-pairs : goal.are_met-requires-clause-pairs
are_met-requires-clause-pairs g c = λ pair h.
    let law = g.met.S.System.laws c.args.system.now in
    let r = law.asks_cells c.args.hand c.args.cells.now c.requires.hand c.requires.cells pair (subst (In pair) (c.deref.ensures.value ∙ c.in_ok-pairs.ensures) h) in
    (subst (λ (n : ℕ). pair.0 < n) (sym c.requires.cells.len) r.0, subst (λ (p : Parents). IsOf p pair.1) (sym c.tree.ensures) r.1)

pub returns : goal.returns
returns g c =
    let pairs_are = c.deref.ensures.value ∙ c.in_ok-pairs.ensures in
    let ready = c.holds_all.ensures.0 (let f = c.if-not-holds_all.false in cc) in
    let no_debt : c.args.view.now.debt ≡ false = let f = c.if-view.false in cc in (
      λ t. record {
        no_debt = no_debt;
        hand = ready.0;
        look = ready.1;
        met = λ pair h. subst (λ (p : Parents). Leq p pair.1 (at c.args.cells.now pair.0)) c.tree.ensures (c.are_met.ensures.0 t pair (subst (In pair) (sym pairs_are) h));
      },
      λ m. c.are_met.ensures.1 (λ pair h. subst (λ (p : Parents). Leq p pair.1 (at c.args.cells.now pair.0)) (sym c.tree.ensures) (m.met pair (subst (In pair) pairs_are h))),
    )
