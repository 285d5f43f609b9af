use Rattle.std.proofs.Common.{subst}
use Rattle.hph_wread.specs.Nesting.{Heading, OpensShallow}
use Rattle.hph_wread.specs.Reading.{Took}
use Rattle.hph_wread.proofs.NestReading.{if_else_took, if_else_shallow}
use Rattle.hph_wread.proofs.nest.finished.Goals as goal

pub returns-in-Head-clause-read : goal.returns-in-Head-clause-read
returns-in-Head-clause-read c = λ bytes mid rest p q. c.headed.ensures.read bytes mid rest (subst (λ o. Took (Heading o) bytes mid) c.in-Head.is p) q

pub returns-in-Head-clause-shallow : goal.returns-in-Head-clause-shallow
returns-in-Head-clause-shallow c = λ room opens shallow. c.headed.ensures.shallow room shallow

pub returns-in-Else-clause-read : goal.returns-in-Else-clause-read
returns-in-Else-clause-read c = λ bytes mid rest p q. if_else_took c.in-Else.ty c.in-Else.first c.args.body (subst (λ o. Took (Heading o) bytes mid) c.in-Else.is p) q

pub returns-in-Else-clause-shallow : goal.returns-in-Else-clause-shallow
returns-in-Else-clause-shallow c = λ room opens shallow. if_else_shallow c.in-Else.ty c.in-Else.first c.args.body room (subst (OpensShallow room) c.in-Else.is opens) shallow
