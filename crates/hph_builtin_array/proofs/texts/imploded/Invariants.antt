use Rattle.std.proofs.Common.{◌≡◌, drop}
use Rattle.std.specs.Map.{values_of}
use Rattle.hph_php.specs.Builtins.{texts_of}
use Rattle.hph_php.specs.Conversions.{map_ok}
use Rattle.hph_php.specs.StringFunctions.{implode}
use Rattle.hph_builtin_array.specs.Sides.{shown_pairs, joined_behind}
use Rattle.hph_builtin_array.proofs.texts.imploded.Given as goal

abbrev pub invariant-values : goal.invariant-values
invariant-values l =
    joined_behind l.separator l.text.items l.index (values_of (shown_pairs (drop l.index l.array.pairs)))
    ≡ map_ok (λ texts. implode l.separator texts) (texts_of (values_of (shown_pairs l.array.pairs)))
