use Rattle.std.proofs.Common.{ap, sym, ◌∙◌}
use Rattle.hph_array.specs.Array.{set, array_map}
use Rattle.hph_array.proofs.ArrayMapLaws.{get-array_map, replace-array_map}
use Rattle.hph_value.specs.declared.value.Value as code
use Rattle.hph_value.specs.Shown.{value_of}
use Rattle.hph_walk_write.specs.Writes.{place_of}
use Rattle.hph_walk_write.proofs.Puts.{set-replaced}
use Rattle.hph_walk_write.proofs.level.open_at.Goals as goal

pub returns-clause-fills : goal.returns-clause-fills
returns-clause-fills c = λ value.
    ap (λ m. set (array_map value_of m) c.args.key value) c.take-inner.ensures.rest
    ∙ (ap (λ a. set a c.args.key value) (sym (replace-array_map value_of c.args.map c.args.key code.Null))
    ∙ set-replaced (array_map value_of c.args.map) c.args.key (value_of code.Null) value)

pub returns-clause-inner : goal.returns-clause-inner
returns-clause-inner c = ap place_of c.take-inner.ensures.value ∙ sym (get-array_map value_of c.args.map c.args.key)
