use Rattle.hph_wread.proofs.PlainInstructions.{type_fails, table_fails}
use Rattle.hph_wread.proofs.Combinators.{took_then, handed_on}
use Rattle.hph_wread.proofs.Tagged.{took_byte}
use Rattle.hph_wread.proofs.plain.indirect_call.Goals as goal

pub returns-in_err-ty-clause-stopped : goal.returns-in_err-ty-clause-stopped
returns-in_err-ty-clause-stopped c =
    let e = c.in_err-ty.field-0.0 in
    let f = c.in_err-ty.ensures.stopped in
    handed_on _ c.from_residual.result e c.from_residual.ensures.1 (type_fails c.opcodes_are_the_tables.ensures.apart c.requires e f)

pub returns-in_err-rest-clause-stopped : goal.returns-in_err-rest-clause-stopped
returns-in_err-rest-clause-stopped c =
    let e = c.in_err-rest.field-0.0 in
    let f = c.in_err-rest.ensures.stopped in
    handed_on _ c.from_residual-in_err-rest.result e c.from_residual-in_err-rest.ensures.1 (table_fails c.opcodes_are_the_tables.ensures.apart (c.types_are_read_in_one_way.ensures.unsigned 32) c.requires c.in_ok-ty.ty c.in_ok-ty.ensures.read e f)

pub returns-clause-read : goal.returns-clause-read
returns-clause-read c = took_then (took_byte 0x11 c.requires) (took_then c.in_ok-ty.ensures.read c.in_ok-rest.ensures.read)
