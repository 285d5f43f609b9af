use Rattle.std.proofs.Common.{◌∙◌, sym, ap}
use Rattle.hph_type.specs.Order.{join}
use Rattle.hph_type.specs.Types.{same_type_decides}
use Rattle.hph_machine.proofs.Raises.{meet_of, rises, risen}
use Rattle.hph_machine.proofs.conditions.rises_by.Goals as goal

pub join-requires-clause-right : goal.join-requires-clause-right
join-requires-clause-right c = rw c.meet.ensures (meet_of c.args.tree.now c.args.old c.args.new c.args.asked c.requires.new c.requires.asked)

pub returns : goal.returns
returns c =
    let e = c.join.ensures ∙ ap (join c.args.tree.now c.args.old) c.meet.ensures in
    let decides = same_type_decides c.args.new c.join.result in (
      λ t. rises c.args.tree.now c.args.old c.args.new c.args.asked (decides.0 (sym c.eq.ensures ∙ t) ∙ e),
      λ some. c.eq.ensures ∙ decides.1 (risen c.args.tree.now c.args.old c.args.new c.args.asked some.0 some.1 some.2 ∙ sym e),
    )
