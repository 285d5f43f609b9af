use Rattle.std.proofs.Common.{◌∙◌, ap, sym}
use Rattle.std.specs.Option.{is_some}
use Rattle.hph_array.specs.Array.{get}
use Rattle.hph_value.specs.declared.value.Value as code
use Rattle.hph_value.specs.declared.value.Elements.{Elements}
use Rattle.hph_value.specs.Shown.{value_of}
use Rattle.hph_value.proofs.Shown.{arr_shown}
use Rattle.hph_walk_write.specs.Unsets.{element_of}
use Rattle.hph_walk_write.proofs.Elements.{is_some-map, element_shown}
use Rattle.hph_walk_write.proofs.unsetting.has_key.Goals as goal

pub returns-in-Arr : goal.returns-in-Arr
returns-in-Arr c =
    c.is_some.ensures
    ∙ (sym (is_some-map (λ r. r.now) c.get-in-Arr.result)
    ∙ (ap is_some c.get-in-Arr.ensures
    ∙ (ap (λ (e : Elements code.Value). is_some (get e.map c.args.key.now)) c.get.ensures
    ∙ (sym (is_some-map value_of (get c.in-Arr.elements.map c.args.key.now))
    ∙ (ap is_some (sym (element_shown c.in-Arr.elements.map c.args.key.now))
    ∙ (ap (λ v. is_some (element_of v c.args.key.now)) (sym (arr_shown c.in-Arr.elements))
    ∙ ap (λ v. is_some (element_of (value_of v) c.args.key.now)) (sym c.in-Arr.is)))))))
