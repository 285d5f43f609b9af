use Rattle.std.proofs.Common.{sym, subst}
use Rattle.hph_wasm.specs.Grammar.{Bytes}
use Rattle.hph_wread.specs.Reading.{Took}
use Rattle.hph_wread.proofs.Combinators.{took_then, handed_on}
use Rattle.hph_wdec.proofs.SegmentParts.{data_memory, data_offset, data_bytes}
use Rattle.hph_wdec.proofs.segments.segment.Goals as goal

pub returns-in_err-memory-clause-stopped : goal.returns-in_err-memory-clause-stopped
returns-in_err-memory-clause-stopped c =
    let e = c.in_err-memory.field-0.0 in
    handed_on _ c.from_residual.result e c.from_residual.ensures.1 (data_memory e c.in_err-memory.ensures.stopped)

pub returns-in_err-offset-clause-stopped : goal.returns-in_err-offset-clause-stopped
returns-in_err-offset-clause-stopped c =
    let e = c.in_err-offset.field-0.0 in
    handed_on _ c.from_residual-in_err-offset.result e c.from_residual-in_err-offset.ensures.1
    (data_offset (c.types_are_read_in_one_way.ensures.unsigned 32) c.in_ok-memory.memory c.in_ok-memory.ensures.read e c.in_err-offset.ensures.stopped)

pub returns-in_err-these-clause-stopped : goal.returns-in_err-these-clause-stopped
returns-in_err-these-clause-stopped c =
    let e = c.in_err-these.field-0.0 in
    handed_on _ c.from_residual-in_err-these.result e c.from_residual-in_err-these.ensures.1
    (data_bytes (c.types_are_read_in_one_way.ensures.unsigned 32) c.instructions_are_read_in_one_way.ensures.expressions c.parts_stop_in_one_place.ensures.expressions
    c.in_ok-memory.memory c.in_ok-memory.ensures.read c.in_ok-offset.offset c.in_ok-offset.ensures.fit c.in_ok-offset.ensures.read e c.in_err-these.ensures.stopped)

pub returns-clause-read : goal.returns-clause-read
returns-clause-read c =
    let these = subst (λ l. Took (Bytes l) c.in_ok-offset.behind.now c.in_ok-these.rest.now) (sym c.in_ok-bytes.ensures) c.in_ok-these.ensures.read in
    took_then c.in_ok-memory.ensures.read (took_then c.in_ok-offset.ensures.read these)
