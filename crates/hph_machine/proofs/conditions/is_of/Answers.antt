use Rattle.std.proofs.Common.{◌∙◌, sym, ap, refl}
use Rattle.hph_type.specs.Types.{PhpType}
use Rattle.hph_machine.proofs.Classes.{of_class, class_of, of_other}
use Rattle.hph_machine.proofs.conditions.is_of.Goals as goal

pub returns-in-Of : goal.returns-in-Of
returns-in-Of c =
    let e = ap (λ (t : PhpType). t.obj) (sym c.ty.view_is) ∙ c.in-Of.is in (
      λ t. of_class c.args.tree.now c.args.ty c.in-Of.class e (c.is_class.ensures.0 t),
      λ h. c.is_class.ensures.1 (class_of c.args.tree.now c.args.ty c.in-Of.class e h),
    )

pub returns-in_default : goal.returns-in_default
returns-in_default c = (λ _. of_other c.args.tree.now c.args.ty (λ class e. c.in_default.not-Of class (ap (λ (t : PhpType). t.obj) c.ty.view_is ∙ e)), λ _. refl)
