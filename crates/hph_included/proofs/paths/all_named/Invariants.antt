use Rattle.std.proofs.Common.{◌≡◌, map, take}
use Rattle.std.specs.Prelude.{filter_map}
use Rattle.std.specs.String.{string_bytes}
use Rattle.hph_program.specs.Sources.{path_named}
use Rattle.hph_included.specs.Literals.{shapes}
use Rattle.hph_included.proofs.paths.all_named.Given as goal

abbrev pub invariant-loop-literal : goal.invariant-loop-literal
invariant-loop-literal l = map string_bytes l.paths.items ≡ filter_map (path_named l.folder) (shapes (take l.literal-index l.literals))
