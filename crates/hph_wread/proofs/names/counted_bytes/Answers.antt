use Rattle.hph_wread.proofs.SpelledNames.{bytes_number, bytes_short, bytes_took}
use Rattle.hph_wread.proofs.Combinators.{handed_on}
use Rattle.hph_wread.proofs.names.counted_bytes.Goals as goal

pub returns-in_err-count-clause-stopped : goal.returns-in_err-count-clause-stopped
returns-in_err-count-clause-stopped c =
    let e = c.in_err-count.field-0.0 in
    let f = c.in_err-count.ensures.stopped in
    handed_on _ c.from_residual.result e c.from_residual.ensures.1 (bytes_number e f)

pub returns-then-behind-count-clause-stopped : goal.returns-then-behind-count-clause-stopped
returns-then-behind-count-clause-stopped c = bytes_short (c.types_are_read_in_one_way.ensures.unsigned 32) c.in_ok-count.count c.in_ok-count.ensures.read c.if-behind-count.true

pub returns-clause-read : goal.returns-clause-read
returns-clause-read c = bytes_took c.in_ok-count.count c.in_ok-count.ensures.read c.if-behind-count.false
