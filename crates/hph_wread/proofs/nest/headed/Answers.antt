use Rattle.std.proofs.Common.{subst}
use Rattle.hph_wread.specs.Nesting.{Heading}
use Rattle.hph_wread.specs.Reading.{Took}
use Rattle.hph_wread.specs.declared.nest.Opening.TheVariants.{Head}
use Rattle.hph_wread.proofs.NestReading.{block_took, loop_took, if_took, block_shallow, loop_shallow, if_shallow}
use Rattle.hph_wread.proofs.nest.headed.Goals as goal

pub returns-in-Block-clause-read : goal.returns-in-Block-clause-read
returns-in-Block-clause-read c = λ bytes mid rest p q. block_took c.args.ty c.args.body (subst (λ form. Took (Heading (Head form c.args.ty)) bytes mid) c.in-Block.is p) q

pub returns-in-Block-clause-shallow : goal.returns-in-Block-clause-shallow
returns-in-Block-clause-shallow c = λ room shallow. block_shallow c.args.ty c.args.body room shallow

pub returns-in-Loop-clause-read : goal.returns-in-Loop-clause-read
returns-in-Loop-clause-read c = λ bytes mid rest p q. loop_took c.args.ty c.args.body (subst (λ form. Took (Heading (Head form c.args.ty)) bytes mid) c.in-Loop.is p) q

pub returns-in-Loop-clause-shallow : goal.returns-in-Loop-clause-shallow
returns-in-Loop-clause-shallow c = λ room shallow. loop_shallow c.args.ty c.args.body room shallow

pub returns-in-If-clause-read : goal.returns-in-If-clause-read
returns-in-If-clause-read c = λ bytes mid rest p q. if_took c.args.ty c.args.body (subst (λ form. Took (Heading (Head form c.args.ty)) bytes mid) c.in-If.is p) q

pub returns-in-If-clause-shallow : goal.returns-in-If-clause-shallow
returns-in-If-clause-shallow c = λ room shallow. if_shallow c.args.ty c.args.body room shallow
