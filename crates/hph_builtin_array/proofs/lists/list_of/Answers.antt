use Rattle.std.proofs.Common.{sym, ◌∙◌, ◌+◌, ap, drop, fold, List}
use Rattle.hph_array.specs.Array.{Array, array_map, append}
use Rattle.hph_php.specs.Values.{Value}
use Rattle.hph_value.specs.Shown.{value_of}
use Rattle.hph_builtin_array.specs.Sides.{shown_pairs, values_on}
use Rattle.hph_builtin_array.proofs.Steps.{listed_next}
use Rattle.hph_builtin_array.proofs.lists.list_of.Goals as goal

pub pairs-preserved : goal.pairs-preserved
pairs-preserved c =
    let pairs = c.args.array.now.pairs in
    let rest : List Value = values_on c.args.side (shown_pairs (drop (c.pairs.index + 1) pairs)) in
    ap (λ (a : Array Value). fold append a rest) (c.in_ok-push.ensures ∙ ap (λ v. append (array_map value_of c.pairs.list) v) c.in_ok-value_on.ensures)
    ∙ (sym (listed_next c.args.side (array_map value_of c.pairs.list) pairs c.pairs.index (c.in-Some.key.now, c.in-Some.value.now) (sym c.in-Some.ensures))
    ∙ c.pairs.invariant)
