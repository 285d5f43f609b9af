-- Arrays that are open, and what they are once values are put into them.
use Rattle.std.specs.Prelude.{List, [], ◌∷◌, Option, None, Some}
use Rattle.std.specs.Option.{option_map}
use Rattle.hph_array.specs.declared.key.Key.{Key}
use Rattle.hph_array.specs.Array.{Array, set, append, array_map}
use Rattle.hph_php.specs.Values.{Value, array_value}
use Rattle.hph_php.specs.Paths.{Written}
use Rattle.hph_value.specs.Shown.{value_of}
use Rattle.hph_walk_write.specs.declared.level.Level.{Level}

-- with a value at a key, or as a new one at the end
abbrev pub array_with : Array Value → Option Key → Value → Array Value
array_with a (Some key) value = set a key value
array_with a None value = append a value

-- the array that a value fills
abbrev pub filled : Level → Value → Value
filled level value = array_value (array_with (array_map value_of level.map) level.key value)

-- the outermost of arrays, each open for the next, where a value fills the innermost
abbrev pub closed : List Level → Value → Value
closed [] value = value
closed (level ∷ levels) value = filled level (closed levels value)

-- what is written, inside a value
abbrev pub written_in : (Value → Value) → Written → Written
written_in whole w = record { place = option_map whole w.place; objects = w.objects }
