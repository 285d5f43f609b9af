use Rattle.std.proofs.Common.{arith}
use Rattle.hph_wread.proofs.Combinators.{took_then, handed_on}
use Rattle.hph_wdec.proofs.Runs.{run_number, run_type}
use Rattle.hph_wdec.proofs.locals.run.Goals as goal

pub returns-in_err-number-clause-stopped : goal.returns-in_err-number-clause-stopped
returns-in_err-number-clause-stopped c =
    let e = c.in_err-number.field-0.0 in
    handed_on _ c.from_residual.result e c.from_residual.ensures.1 (run_number c.args.total e c.in_err-number.ensures.stopped)

pub returns-in_err-ty-clause-stopped : goal.returns-in_err-ty-clause-stopped
returns-in_err-ty-clause-stopped c =
    let e = c.in_err-ty.field-0.0 in
    handed_on _ c.from_residual-in_err-ty.result e c.from_residual-in_err-ty.ensures.1
    (run_type c.args.total (c.types_are_read_in_one_way.ensures.unsigned 32) c.in_ok-number.number (omega arith) c.in_ok-number.ensures.read e c.in_err-ty.ensures.stopped)

pub returns-clause-read : goal.returns-clause-read
returns-clause-read c = took_then c.in_ok-number.ensures.read c.in_ok-ty.ensures.read
