use Rattle.std.proofs.Common.{◌∙◌, ap}
use Rattle.hph_array.specs.Array.{Array, set}
use Rattle.hph_value.specs.declared.value.Value as code
use Rattle.hph_value.specs.Shown.{value_of}
use Rattle.hph_value_rows.proofs.Pairs.{set_told}
use Rattle.hph_value_rows.proofs.elements.set_element.Goals as goal

pub returns : goal.returns
returns c =
    set_told (value_of c.args.key.now) c.in_ok-key.key c.args.value c.args.elements.map c.set.new.self (value_of c.in_ok-array.field-0) c.in_ok-key.ensures
    (c.in_ok-set.ensures.ok ∙ ap (λ (a : Array code.Value). set a c.in_ok-key.key c.args.value) c.in_ok-map.ensures) c.in_ok-array.ensures
