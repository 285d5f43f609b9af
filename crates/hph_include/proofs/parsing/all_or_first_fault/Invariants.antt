use Rattle.std.proofs.Common.{◌≡◌, map, Ok}
use Rattle.hph_include.proofs.parsing.all_or_first_fault.Given as goal

abbrev pub invariant-loop-front : goal.invariant-loop-front
invariant-loop-front l = record {
  can_next : (goal.iterator-loop-front).can_next l.front-iterator;
  is_finite : (goal.iterator-loop-front).is_finite l.front-iterator;
  so_far : l.yielded ≡ map Ok l.files.items;
}
