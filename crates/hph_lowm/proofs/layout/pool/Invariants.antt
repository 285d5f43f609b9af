use Rattle.std.proofs.Common.{◌≡◌, ◌++◌, drop}
use Rattle.std.specs.List.{concat}
use Rattle.hph_lowm.proofs.layout.pool.Given as goal

abbrev pub invariant-loop-text : goal.invariant-loop-text
invariant-loop-text l = l.pool.items ++ concat (drop l.text-index l.texts) ≡ concat l.texts
