use Rattle.std.proofs.Common.{◌≡◌, ◌∙◌, ap, sym}
use Rattle.hph_effects.specs.Hosts.{done, push_item}
use Rattle.hph_host_state.specs.States.{item_of, seen}
use Rattle.hph_host_state.proofs.Takings.{retold}
use Rattle.hph_value_rows.proofs.literals.dup.Goals as goal

pub returns : goal.returns
returns c = λ out.
    let item = item_of c.in_ok-item.item in
    let same : item_of c.in_ok-copy.copy ≡ item = ap item_of c.in_ok-copy.ensures.cases in
    let under = c.in_ok-put.ensures out in
    retold c.push.result out _ (done (push_item (item_of c.in_ok-copy.copy) (seen out c.put.new.self))) c.push.new.self
    (c.in_ok-item.ensures out (λ item h. done (push_item item (push_item item h))) ∙ (ap (λ h. done (push_item item h)) (sym under) ∙ ap (λ i. done (push_item i (seen out c.put.new.self))) (sym same)))
    (c.push.ensures out)
