use Rattle.std.proofs.Common.{rules}
use Rattle.hph_array.proofs.Rising.{RiseFrom-distinct}
use Rattle.hph_array.proofs.keys.Keys.len.Goals as goal

pub returns-in-Rising-clause-distinct : goal.returns-in-Rising-clause-distinct
returns-in-Rising-clause-distinct c = search (rules, RiseFrom-distinct)
