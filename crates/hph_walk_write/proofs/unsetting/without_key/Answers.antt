use Rattle.std.proofs.Common.{◌∙◌, ap, sym, Some, Ok}
use Rattle.hph_array.specs.Array.{array_map}
use Rattle.hph_array.proofs.ArrayMapLaws.{unset-array_map}
use Rattle.hph_php.specs.Values.{array_value}
use Rattle.hph_value.specs.Shown.{value_of}
use Rattle.hph_walk_write.specs.Unsets.{place_left}
use Rattle.hph_walk_write.proofs.Elements.{unset_here}
use Rattle.hph_walk_write.proofs.unsetting.without_key.Goals as goal

pub returns-in_ok-array-in-Ok-true : goal.returns-in_ok-array-in-Ok-true
returns-in_ok-array-in-Ok-true c = λ heap within.
    let map = c.in_ok-map-in-Ok-true.map in
    let key = c.in_ok-key-in-Ok-true.key in
    unset_here heap within (value_of c.args.value) (array_map value_of map) (value_of c.args.key.now) key c.in_ok-map-in-Ok-true.ensures c.in_ok-key-in-Ok-true.ensures
    ∙ ap (λ v. Ok (place_left heap (Some v)))
    (ap array_value (unset-array_map value_of map key ∙ ap (array_map value_of) (sym c.unset.ensures.rest)) ∙ sym c.in_ok-array-in-Ok-true.ensures)
