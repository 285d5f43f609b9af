use Rattle.std.proofs.Common.{◌≡◌, drop}
use Rattle.std.specs.Map.{values_of}
use Rattle.hph_php.specs.Builtins as php
use Rattle.hph_value.specs.Shown.{value_of}
use Rattle.hph_builtin_array.specs.Sides.{shown_pairs}
use Rattle.hph_builtin_array.proofs.members.is_among.Given as goal

abbrev pub invariant-values : goal.invariant-values
invariant-values l =
    php.is_among l.strict (value_of l.value) (values_of (shown_pairs (drop l.index l.array.pairs)))
    ≡ php.is_among l.strict (value_of l.value) (values_of (shown_pairs l.array.pairs))
