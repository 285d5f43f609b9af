use Rattle.std.proofs.Common.{rules}
use Rattle.hph_array.proofs.Rising.{is_some-position}
use Rattle.hph_array.proofs.keys.Keys.place_of.Goals as goal

pub returns-in-Rising-clause-found : goal.returns-in-Rising-clause-found
returns-in-Rising-clause-found c = search (rules, is_some-position)
