use Rattle.std.proofs.Common.{◌∙◌, Some, ap, sym}
use Rattle.hph_effects.specs.Hosts.{done, push_item}
use Rattle.hph_host_state.specs.States.{item_of, seen}
use Rattle.hph_host_state.proofs.Takings.{retold}
use Rattle.hph_value_rows.proofs.Pairs.{held_item, held_loop, held_nothing}
use Rattle.hph_value_rows.proofs.holds.held.Goals as goal

pub returns-in_ok-copy-in-Some-Item : goal.returns-in_ok-copy-in-Some-Item
returns-in_ok-copy-in-Some-Item c = λ out.
    retold c.push.result out _ (done (push_item (item_of c.in_ok-copy-in-Some-Item.copy) (seen out c.args.state.now))) c.push.new.self
    (held_item c.args.state.now.holds c.in-Some-Item.item (seen out c.args.state.now) (ap Some (sym c.in-Some-Item.field-0-is) ∙ c.in-Some-Item.ensures)
    ∙ ap (λ i. done (push_item (item_of i) (seen out c.args.state.now))) (sym c.in_ok-copy-in-Some-Item.ensures.cases))
    (c.push.ensures out)

pub returns-in-Some-Loop : goal.returns-in-Some-Loop
returns-in-Some-Loop c = λ out.
    held_loop c.args.state.now.holds c.in-Some-Loop.field-0-0 (seen out c.args.state.now) (ap Some (sym c.in-Some-Loop.field-0-is) ∙ c.in-Some-Loop.ensures)

pub returns-in-None : goal.returns-in-None
returns-in-None c = λ out. held_nothing c.args.state.now.holds (seen out c.args.state.now) c.in-None.ensures
