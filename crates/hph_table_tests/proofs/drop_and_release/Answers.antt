use Rattle.std.proofs.Common.{sym, ap, subst, ◌∙◌}
use Rattle.hph_sys.specs.Typings.{In}
use Rattle.hph_core.specs.declared.view.View.{View}
use Rattle.hph_table_tests.proofs.Steps.{drop_holds}
use Rattle.hph_table_tests.proofs.drop_and_release.Goals as goal

pub release-requires-clause-may : goal.release-requires-clause-may
release-requires-clause-may g c =
    subst (In c.args.scope) (sym (ap (λ (v : View). v.holds) c.pending_drop.ensures.view ∙ drop_holds c.args.seat.now.1))
    (c.requires.done.1.look c.args.scope c.requires.look)
