use Rattle.hph_wread.proofs.Combinators.{took_then, handed_on}
use Rattle.hph_wdec.proofs.SegmentParts.{element_table, element_offset, element_funcs}
use Rattle.hph_wdec.proofs.segments.element.Goals as goal

pub returns-in_err-table-clause-stopped : goal.returns-in_err-table-clause-stopped
returns-in_err-table-clause-stopped c =
    let e = c.in_err-table.field-0.0 in
    handed_on _ c.from_residual.result e c.from_residual.ensures.1 (element_table e c.in_err-table.ensures.stopped)

pub returns-in_err-offset-clause-stopped : goal.returns-in_err-offset-clause-stopped
returns-in_err-offset-clause-stopped c =
    let e = c.in_err-offset.field-0.0 in
    handed_on _ c.from_residual-in_err-offset.result e c.from_residual-in_err-offset.ensures.1
    (element_offset (c.types_are_read_in_one_way.ensures.unsigned 32) c.in_ok-table.table c.in_ok-table.ensures.read e c.in_err-offset.ensures.stopped)

pub returns-in_err-funcs-clause-stopped : goal.returns-in_err-funcs-clause-stopped
returns-in_err-funcs-clause-stopped c =
    let e = c.in_err-funcs.field-0.0 in
    handed_on _ c.from_residual-in_err-funcs.result e c.from_residual-in_err-funcs.ensures.1
    (element_funcs (c.types_are_read_in_one_way.ensures.unsigned 32) c.instructions_are_read_in_one_way.ensures.expressions c.parts_stop_in_one_place.ensures.expressions
    c.in_ok-table.table c.in_ok-table.ensures.read c.in_ok-offset.offset c.in_ok-offset.ensures.fit c.in_ok-offset.ensures.read e c.in_err-funcs.ensures.stopped)

pub returns-clause-read : goal.returns-clause-read
returns-clause-read c = took_then c.in_ok-table.ensures.read (took_then c.in_ok-offset.ensures.read c.in_ok-funcs.ensures.read)
