use Rattle.std.proofs.Common.{◌≡◌, ◌∙◌, ap, sym, Some}
use Rattle.std.specs.Option.{is_some, option_map}
use Rattle.hph_array.specs.Array.{array_map, get}
use Rattle.hph_array.proofs.ArrayMapLaws.{get-array_map, set-array_map}
use Rattle.hph_php.specs.Values.{array_value}
use Rattle.hph_value.specs.Shown.{value_of}
use Rattle.hph_walk_write.specs.Unsets.{element_of}
use Rattle.hph_walk_write.proofs.Puts.{set-same}
use Rattle.hph_walk_write.proofs.Elements.{is_some-map, element_shown}
use Rattle.hph_walk_write.proofs.unsetting.open_element.Goals as goal

pub unwrap-requires : goal.unwrap-requires
unwrap-requires c =
    ap is_some c.open_at-level.ensures.taken
    ∙ (sym (is_some-map value_of (get c.in_ok-map.map c.args.key))
    ∙ (ap is_some (sym (element_shown c.in_ok-map.map c.args.key))
    ∙ (ap (λ v. is_some (element_of v c.args.key)) (sym c.in_ok-map.ensures)
    ∙ c.requires)))

pub returns : goal.returns
returns c =
    let there : get c.in_ok-map.map c.args.key ≡ Some c.unwrap.result = sym c.open_at-level.ensures.taken ∙ c.unwrap.ensures in
    record {
      array = array_map value_of c.in_ok-map.map;
      is_array = c.in_ok-map.ensures;
      there = get-array_map value_of c.in_ok-map.map c.args.key ∙ ap (option_map value_of) there;
      fills = λ v. ap array_value (c.open_at-level.ensures.fills v);
      keeps =
          ap array_value (c.open_at-level.ensures.fills (value_of c.unwrap.result)
          ∙ (set-array_map value_of c.in_ok-map.map c.args.key c.unwrap.result
          ∙ ap (array_map value_of) (set-same c.in_ok-map.map c.args.key c.unwrap.result c.open_at-level.ensures.array there)))
          ∙ sym c.in_ok-map.ensures;
    }
