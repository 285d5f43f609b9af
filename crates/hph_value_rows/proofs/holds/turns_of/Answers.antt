use Rattle.std.proofs.Common.{◌∙◌, Ok, ap, sym}
use Rattle.hph_array.specs.Array.{array_map}
use Rattle.hph_php.specs.Statements.{turns_of}
use Rattle.hph_value.specs.declared.value.Value as code
use Rattle.hph_value.specs.declared.value.Elements.{Elements}
use Rattle.hph_value.specs.Shown.{value_of}
use Rattle.hph_value_rows.proofs.Pairs.{turns_shown}
use Rattle.hph_value_rows.proofs.holds.turns_of.Goals as goal

pub returns-in_ok-clone-in-Arr : goal.returns-in_ok-clone-in-Arr
returns-in_ok-clone-in-Arr c =
    ap (λ v. turns_of (value_of v)) c.in-Arr.is
    ∙ (turns_shown c.in-Arr.elements ∙ ap (λ (e : Elements code.Value). Ok (array_map value_of e.map).pairs) (sym c.in_ok-clone-in-Arr.ensures.cases))
