use Rattle.std.proofs.Common.{sym, ◌∙◌}
use Rattle.hph_machine.proofs.Members.{any_in, in_any}
use Rattle.hph_machine.proofs.lists.has.Goals as goal

pub returns : goal.returns
returns c = (λ t. any_in c.args.x c.args.list.now (sym c.contains.ensures.value ∙ t), λ h. c.contains.ensures.value ∙ in_any c.args.x c.args.list.now h)
