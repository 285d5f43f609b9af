use Rattle.hph_effects.specs.Hosts.{a_value, the_text}
use Rattle.hph_value.specs.Shown.{value_of}
use Rattle.hph_host_state.proofs.Takings.{finds_in}
use Rattle.hph_host_state.proofs.state.State.pop_text.Goals as goal

pub returns-in-Value : goal.returns-in-Value
returns-in-Value c =
    finds_in the_text (λ text. text) c.text_of.result (a_value (value_of c.in-Value.value)) c.args.self.now c.pop_any.new.self
    (rw c.in-Value.is at c.in_ok-value.ensures) c.text_of.ensures
