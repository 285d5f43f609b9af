use Rattle.std.proofs.Common.{◌≡◌, drop, fold}
use Rattle.hph_php.specs.Arrays.{with_new, union}
use Rattle.hph_ops.proofs.unions.union.Given as goal

abbrev pub invariant-pairs : goal.invariant-pairs
invariant-pairs l = fold with_new l.map (drop l.index l.y.pairs) ≡ union l.x l.y
