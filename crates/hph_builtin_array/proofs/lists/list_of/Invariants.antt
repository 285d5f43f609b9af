use Rattle.std.proofs.Common.{◌≡◌, drop, fold}
use Rattle.hph_array.specs.Array.{array_map, append}
use Rattle.hph_php.specs.Arrays.{list_array}
use Rattle.hph_value.specs.Shown.{value_of}
use Rattle.hph_builtin_array.specs.Sides.{values_on, shown_pairs}
use Rattle.hph_builtin_array.proofs.lists.list_of.Given as goal

abbrev pub invariant-pairs : goal.invariant-pairs
invariant-pairs l =
    fold append (array_map value_of l.list) (values_on l.side (shown_pairs (drop l.index l.array.pairs)))
    ≡ list_array (values_on l.side (shown_pairs l.array.pairs))
