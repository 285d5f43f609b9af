use Rattle.std.proofs.Common.{rules}
use Rattle.hph_array.proofs.Rising.{RiseFrom-distinct}
use Rattle.hph_array.proofs.keys.Keys.push.Goals as goal

pub indexed_with-requires-clause-distinct : goal.indexed_with-requires-clause-distinct
indexed_with-requires-clause-distinct c = search (rules, RiseFrom-distinct)
