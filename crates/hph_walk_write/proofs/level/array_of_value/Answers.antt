use Rattle.std.proofs.Common.{ap, ◌∙◌}
use Rattle.hph_value.specs.declared.value.Value as code
use Rattle.hph_value.specs.declared.value.Elements.{Elements}
use Rattle.hph_value.specs.Shown.{value_of}
use Rattle.hph_value.proofs.Shown.{arr_shown}
use Rattle.hph_walk_write.proofs.Entering.{elements_there}
use Rattle.hph_walk_write.proofs.level.array_of_value.Goals as goal

pub returns-in_ok-copy-in-Arr : goal.returns-in_ok-copy-in-Arr
returns-in_ok-copy-in-Arr c =
    elements_there (value_of c.args.value.now) c.in-Arr.elements.map c.in_ok-copy-in-Arr.field-0
    (ap value_of c.in-Arr.is ∙ arr_shown c.in-Arr.elements) (c.in_ok-copy-in-Arr.ensures ∙ ap (λ (e : Elements code.Value). e.map) c.get.ensures)
