use Rattle.hph_wread.proofs.Combinators.{handed_on}
use Rattle.hph_wdec.proofs.Runs.{locals_count, locals_runs, locals_took}
use Rattle.hph_wdec.proofs.locals.locals.Goals as goal

pub returns-in_err-count-clause-stopped : goal.returns-in_err-count-clause-stopped
returns-in_err-count-clause-stopped c =
    let e = c.in_err-count.field-0.0 in
    handed_on _ c.from_residual.result e c.from_residual.ensures.1 (locals_count e c.in_err-count.ensures.stopped)

pub returns-in_err-locals-clause-stopped : goal.returns-in_err-locals-clause-stopped
returns-in_err-locals-clause-stopped c =
    let e = c.in_err-locals.field-0.0 in
    handed_on _ c.from_residual-in_err-locals.result e c.from_residual-in_err-locals.ensures.1
    (locals_runs (c.types_are_read_in_one_way.ensures.unsigned 32) c.in_ok-count.count c.in_ok-count.ensures.read e c.in_err-locals.ensures.stopped)

pub returns-clause-read : goal.returns-clause-read
returns-clause-read c = locals_took c.in_ok-locals.locals c.in_ok-count.count c.in_ok-locals.ensures.fit c.in_ok-count.ensures.read c.in_ok-locals.ensures.read
