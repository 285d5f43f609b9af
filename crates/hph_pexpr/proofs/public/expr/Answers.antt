use Rattle.hph_pexpr.proofs.Calls.{found_of, only_of}
use Rattle.hph_pexpr.proofs.public.expr.Goals as goal

pub returns-clause-found : goal.returns-clause-found
returns-clause-found c = found_of c.expressions_are_read.ensures.sound c.args.tokens.now c.args.at c.exact.result c.exact.ensures

pub returns-clause-only : goal.returns-clause-only
returns-clause-only c = only_of c.expressions_are_read.ensures.complete c.args.tokens.now c.args.at c.exact.result c.exact.ensures
