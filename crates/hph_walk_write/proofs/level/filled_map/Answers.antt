use Rattle.std.proofs.Common.{ap, sym, ◌∙◌}
use Rattle.hph_array.specs.Array.{array_map}
use Rattle.hph_array.proofs.ArrayMapLaws.{set-array_map, append-array_map}
use Rattle.hph_value.specs.Shown.{value_of}
use Rattle.hph_walk_write.specs.Levels.{array_with}
use Rattle.hph_walk_write.proofs.level.filled_map.Goals as goal
use Rattle.hph_walk_write.proofs.level.filled_map.Goals.{in-Some+in_ok-set-in-Some, in-None+in-Ok}

pub returns : goal.returns
returns c = elim c.match-key.branch [
  | in-Some+in_ok-set-in-Some w ↦
      ap (array_map value_of) (w.map-is ∙ w.in_ok-set-in-Some.ensures.ok)
      ∙ (sym (set-array_map value_of c.args.level.map w.in-Some.key c.args.value)
      ∙ ap (λ k. array_with (array_map value_of c.args.level.map) k (value_of c.args.value)) (sym w.in-Some.is))
  | in-None+in-Ok w ↦
      ap (array_map value_of) (w.map-is ∙ w.in-Ok.ensures.ok)
      ∙ (sym (append-array_map value_of c.args.level.map c.args.value)
      ∙ ap (λ k. array_with (array_map value_of c.args.level.map) k (value_of c.args.value)) (sym w.in-None.is))
]
