use Rattle.hph_wread.proofs.PlainInstructions.{labels_fails, label_fails}
use Rattle.hph_wread.proofs.Combinators.{took_then, handed_on}
use Rattle.hph_wread.proofs.Tagged.{took_byte}
use Rattle.hph_wread.proofs.plain.branch_table.Goals as goal

pub returns-in_err-labels-clause-stopped : goal.returns-in_err-labels-clause-stopped
returns-in_err-labels-clause-stopped c =
    let e = c.in_err-labels.field-0.0 in
    let f = c.in_err-labels.ensures.stopped in
    handed_on _ c.from_residual.result e c.from_residual.ensures.1 (labels_fails c.opcodes_are_the_tables.ensures.apart c.requires e f)

pub returns-in_err-label-clause-stopped : goal.returns-in_err-label-clause-stopped
returns-in_err-label-clause-stopped c =
    let e = c.in_err-label.field-0.0 in
    let f = c.in_err-label.ensures.stopped in
    handed_on _ c.from_residual-in_err-label.result e c.from_residual-in_err-label.ensures.1 (label_fails c.opcodes_are_the_tables.ensures.apart (c.types_are_read_in_one_way.ensures.unsigned 32) c.requires c.in_ok-labels.labels c.in_ok-labels.ensures.read e f)

pub returns-clause-read : goal.returns-clause-read
returns-clause-read c = took_then (took_byte 0x0E c.requires) (took_then c.in_ok-labels.ensures.read c.in_ok-label.ensures.read)
