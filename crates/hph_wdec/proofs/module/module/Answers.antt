use Rattle.std.proofs.Common.{arith}
use Rattle.hph_wdec.specs.Next.{parts_read}
use Rattle.hph_wdec.proofs.SoFar.{module_read, parts_joined}
use Rattle.hph_wdec.proofs.module.module.Goals as goal

pub returns-then-len-clause-fault : goal.returns-then-len-clause-fault
returns-then-len-clause-fault c =
    let read = c.in_ok-sections.ensures.read in
    (omega arith, c.sections_are_read_in_turn.ensures.lacks_code c.args.bytes.now (parts_read c.in_ok-sections.sections) read.0 read.1 (λ same. omega (arith, same)))

pub returns-clause-spelled : goal.returns-clause-spelled
returns-clause-spelled c =
    let read = c.in_ok-sections.ensures.read in
    (module_read c.sections_are_read_in_turn.ensures.ends c.args.bytes.now _ (parts_read c.in_ok-sections.sections) read.0 read.1
    (parts_joined c.in_ok-sections.sections c.in_ok-funcs.funcs c.in_ok-funcs.ensures.types c.in_ok-funcs.ensures.codes)).0

pub returns-clause-supported : goal.returns-clause-supported
returns-clause-supported c =
    let read = c.in_ok-sections.ensures.read in
    (module_read c.sections_are_read_in_turn.ensures.ends c.args.bytes.now _ (parts_read c.in_ok-sections.sections) read.0 read.1
    (parts_joined c.in_ok-sections.sections c.in_ok-funcs.funcs c.in_ok-funcs.ensures.types c.in_ok-funcs.ensures.codes)).1
