use Rattle.std.proofs.Common.{◌∙◌, ap, sym}
use Rattle.std.specs.Option.{option_copied}
use Rattle.hph_accept.proofs.LastStep.{last_some, last_none}
use Rattle.hph_accept.proofs.declarations.ends_with_property.Goals as goal

pub returns-in-Some : goal.returns-in-Some
returns-in-Some c = c.is_property_step.ensures ∙ sym (last_some c.args.steps.now c.in-Some.step.now (sym c.last.ensures.value ∙ ap option_copied c.in-Some.is))

pub returns-in-None : goal.returns-in-None
returns-in-None c = sym (last_none c.args.steps.now (sym c.last.ensures.value ∙ ap option_copied c.in-None.is))
