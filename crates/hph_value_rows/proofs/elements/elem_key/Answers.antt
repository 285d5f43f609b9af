use Rattle.std.proofs.Common.{◌∙◌}
use Rattle.hph_array.specs.Array.{array_map}
use Rattle.hph_php.specs.Operations.{with_key}
use Rattle.hph_effects.specs.Hosts.{popped}
use Rattle.hph_effects.specs.Values.{with_element}
use Rattle.hph_value.specs.Shown.{value_of}
use Rattle.hph_host_state.proofs.Takings.{retold}
use Rattle.hph_value_rows.proofs.Pairs.{element_told}
use Rattle.hph_value_rows.proofs.elements.elem_key.Goals as goal

pub returns : goal.returns
returns c = λ out. retold c.settle.result out _ _ c.settle.new.self
    (c.in_ok-value.ensures out (λ v h. popped h (λ k h. popped h (with_element (with_key k v))))
    ∙ (c.in_ok-key.ensures out (λ k h. popped h (with_element (with_key k (value_of c.in_ok-value.value))))
    ∙ (c.in_ok-array.ensures out (with_element (with_key (value_of c.in_ok-key.key) (value_of c.in_ok-value.value)))
    ∙ element_told (with_key (value_of c.in_ok-key.key) (value_of c.in_ok-value.value)) _ (array_map value_of c.in_ok-elements.elements.map) _ c.in_ok-elements.ensures)))
    (c.settle.ensures _ c.set_element-answer.ensures out)
