use Rattle.hph_wread.proofs.PlainInstructions.{argument_align, argument_offset, argument_took}
use Rattle.hph_wread.proofs.Combinators.{handed_on}
use Rattle.hph_wread.proofs.plain.memory_argument.Goals as goal

pub returns-in_err-align-clause-stopped : goal.returns-in_err-align-clause-stopped
returns-in_err-align-clause-stopped c =
    let e = c.in_err-align.field-0.0 in
    let f = c.in_err-align.ensures.stopped in
    handed_on _ c.from_residual.result e c.from_residual.ensures.1 (argument_align e f)

pub returns-in_err-offset-clause-stopped : goal.returns-in_err-offset-clause-stopped
returns-in_err-offset-clause-stopped c =
    let e = c.in_err-offset.field-0.0 in
    let f = c.in_err-offset.ensures.stopped in
    handed_on _ c.from_residual-in_err-offset.result e c.from_residual-in_err-offset.ensures.1 (argument_offset (c.types_are_read_in_one_way.ensures.unsigned 32) c.in_ok-align.align c.in_ok-align.ensures.read e f)

pub returns-clause-read : goal.returns-clause-read
returns-clause-read c = argument_took c.argument_of.result c.in_ok-align.align c.argument_of.ensures.align c.in_ok-align.ensures.read c.in_ok-offset.offset c.argument_of.ensures.offset c.in_ok-offset.ensures.read
