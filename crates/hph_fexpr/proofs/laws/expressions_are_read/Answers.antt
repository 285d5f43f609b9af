use Rattle.hph_fexpr.proofs.Calls.{at_some, at_is}
use Rattle.hph_fexpr.proofs.laws.expressions_are_read.Goals as goal

pub returns-clause-sound : goal.returns-clause-sound
returns-clause-sound c = at_some c.expression_uses_a_front.ensures

pub returns-clause-complete : goal.returns-clause-complete
returns-clause-complete c = at_is c.nesting_laws.ensures
