use Rattle.hph_wread.proofs.SizeLimits.{least_number}
use Rattle.hph_wread.proofs.Combinators.{handed_on}
use Rattle.hph_wread.proofs.limits.least.Goals as goal

pub returns-in_err-number-clause-stopped : goal.returns-in_err-number-clause-stopped
returns-in_err-number-clause-stopped c =
    let e = c.in_err-number.field-0.0 in
    let f = c.in_err-number.ensures.stopped in
    handed_on _ c.from_residual.result e c.from_residual.ensures.1 (least_number c.args.most c.args.name e f)
