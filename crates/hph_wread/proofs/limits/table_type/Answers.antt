use Rattle.hph_wread.proofs.SizeLimits.{table_byte, table_limits}
use Rattle.hph_wread.proofs.Combinators.{took_then, handed_on}
use Rattle.hph_wread.proofs.limits.table_type.Goals as goal

pub returns-in_err-behind-clause-stopped : goal.returns-in_err-behind-clause-stopped
returns-in_err-behind-clause-stopped c =
    let e = c.in_err-behind.field-0.0 in
    let f = c.in_err-behind.ensures.stopped in
    handed_on _ c.from_residual.result e c.from_residual.ensures.1 (table_byte e f)

pub returns-in_err-limits-clause-stopped : goal.returns-in_err-limits-clause-stopped
returns-in_err-limits-clause-stopped c =
    let e = c.in_err-limits.field-0.0 in
    let f = c.in_err-limits.ensures.stopped in
    handed_on _ c.from_residual-in_err-limits.result e c.from_residual-in_err-limits.ensures.1 (table_limits c.in_ok-behind.ensures.read e f)

pub returns-clause-read : goal.returns-clause-read
returns-clause-read c = took_then c.in_ok-behind.ensures.read c.in_ok-limits.ensures.read
