use Rattle.std.proofs.Common.{◌≡◌, fold, length, map}
use Rattle.hph_array.specs.Array.{array_map, append}
use Rattle.hph_php.specs.Arrays.{list_array}
use Rattle.hph_php.specs.StringFunctions.{explode}
use Rattle.hph_php.specs.Values.{Str}
use Rattle.hph_value.specs.Shown.{value_of}
use Rattle.hph_builtin_array.proofs.lists.exploded.Given as goal

abbrev pub invariant-pieces : goal.invariant-pieces
invariant-pieces l =
    fold append (array_map value_of l.list) (map Str (explode l.separator l.rest)) ≡ list_array (map Str (explode l.separator l.bytes))

abbrev pub decreases-pieces : goal.decreases-pieces
decreases-pieces l = length l.rest
