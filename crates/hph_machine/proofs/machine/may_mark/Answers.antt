use Rattle.std.proofs.Common.{◌≡◌, refl, sym, subst}
use Rattle.hph_sys.specs.Shape.{Shape}
use Rattle.hph_core.specs.declared.view.View.{View}
use Rattle.hph_core.specs.Conditions.{MayMark}
use Rattle.hph_machine.proofs.machine.may_mark.Goals as goal

pub returns-in-Some : goal.returns-in-Some
returns-in-Some g c =
    let sys : Shape = g.S.System.shape c.args.system.now in (
      λ t. (c.in-Some.ensures.live.0 refl, subst (λ (v : View). MayMark sys v c.args.scope) c.in-Some.ensures.entry (c.may_mark.ensures.0 t)),
      λ m. c.may_mark.ensures.1 (subst (λ (v : View). MayMark sys v c.args.scope) (sym c.in-Some.ensures.entry) m.1),
    )
