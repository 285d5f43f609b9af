use Rattle.std.proofs.Common.{◌≡◌, ◌≤◌, drop}
use Rattle.hph_parse.specs.Public.{deep_from}
use Rattle.hph_parse.proofs.brackets.first_deep.Given as goal

abbrev pub invariant-loop-index : goal.invariant-loop-index
invariant-loop-index l = (deep_from 0 0 l.tokens ≡ deep_from l.count l.index (drop l.index l.tokens)) × (l.count ≤ 256)
