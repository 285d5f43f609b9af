use Rattle.hph_wread.proofs.Combinators.{took_then, handed_on}
use Rattle.hph_wdec.proofs.CodeParts.{inside_locals, inside_body}
use Rattle.hph_wdec.proofs.code.locals_and_body.Goals as goal

pub returns-in_err-locals-clause-stopped : goal.returns-in_err-locals-clause-stopped
returns-in_err-locals-clause-stopped c =
    let e = c.in_err-locals.field-0.0 in
    handed_on _ c.from_residual.result e c.from_residual.ensures.1 (inside_locals e c.in_err-locals.ensures.stopped)

pub returns-in_err-body-clause-stopped : goal.returns-in_err-body-clause-stopped
returns-in_err-body-clause-stopped c =
    let e = c.in_err-body.field-0.0 in
    handed_on _ c.from_residual-in_err-body.result e c.from_residual-in_err-body.ensures.1
    (inside_body c.sections_are_read_in_one_way.ensures.locals c.parts_stop_in_one_place.ensures.locals c.in_ok-locals.locals c.in_ok-locals.ensures.fit c.in_ok-locals.ensures.read e c.in_err-body.ensures.stopped)

pub returns-clause-read : goal.returns-clause-read
returns-clause-read c = took_then c.in_ok-locals.ensures.read c.in_ok-body.ensures.read
