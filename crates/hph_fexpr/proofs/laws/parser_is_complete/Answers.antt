use Rattle.hph_fexpr.proofs.BothWays.{level_complete, postfix_complete}
use Rattle.hph_fexpr.proofs.laws.parser_is_complete.Goals as goal

pub returns-clause-level : goal.returns-clause-level
returns-clause-level c = level_complete c.nesting_laws.ensures

pub returns-clause-postfix : goal.returns-clause-postfix
returns-clause-postfix c = postfix_complete c.nesting_laws.ensures
