use Rattle.std.proofs.Common.{ℕ, List, ◌-◌, sym, subst}
use Rattle.hph_type.specs.Types.{PhpType}
use Rattle.hph_core.specs.declared.view.View.{View}
use Rattle.hph_core.specs.Rule.{one_if}
use Rattle.hph_table.specs.Views.{RaisesSeen}
use Rattle.hph_table_tests.proofs.Steps.{raises_marked}
use Rattle.hph_table_tests.proofs.mark_and_raise.Goals as goal

pub raise-requires-clause-may : goal.raise-requires-clause-may
raise-requires-clause-may g c =
    let sys = g.S.System.shape c.args.shared.now.1.system.value in
    let may = c.requires.raise in
    let v : View = c.args.seat.now.1 in
    subst (λ (w : View). (s : ℕ) × ((K : List PhpType) × RaisesSeen sys w s c.args.cell c.args.ty K)) (sym c.mark.ensures.view)
    (may.0, (may.1.0, raises_marked sys v c.args.reader (1 - one_if c.mark.result) may.0 c.args.cell c.args.ty may.1.0 may.1.1))
