use Rattle.hph_array.specs.Array.{array_map}
use Rattle.hph_value.specs.Shown.{value_of}
use Rattle.hph_walk_write.proofs.Elements.{written_array}
use Rattle.hph_walk_write.proofs.unsetting.pairs_of.Goals as goal

pub returns-in-Ok : goal.returns-in-Ok
returns-in-Ok c = written_array (value_of c.args.value) (array_map value_of c.in-Ok.map) c.requires c.in-Ok.ensures
