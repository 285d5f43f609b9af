use Rattle.std.proofs.Common.{◌≡◌, sym, ap, subst, ◌∙◌, None}
use Rattle.hph_core.specs.declared.view.View.{View}
use Rattle.hph_core.specs.Conditions.{last_met}
use Rattle.hph_table.specs.Holds.{busy}
use Rattle.hph_table_tests.proofs.Steps.{last_busy}
use Rattle.hph_table_tests.proofs.hold_or_put_back.Goals as goal

pub put_back-requires-clause-may : goal.put_back-requires-clause-may
put_back-requires-clause-may g c =
    let v : View = c.args.seat.now.1 in
    let h = c.in-Busy.field-0 in
    let is : c.try_hold.new.seat.1 ≡ busy v c.args.scope h = c.in-Busy.ensures.view.0 in
    record {
      hand = ap (λ (w : View). w.hand) is ∙ c.requires.hand.1;
      no_debt = ap (λ (w : View). w.debt) is ∙ c.requires.debt;
      met = (
        c.args.scope,
        h,
        c.requires.look,
        ap (λ (w : View). last_met None w.findings) is ∙ last_busy None v.findings c.args.scope h,
      );
    }
