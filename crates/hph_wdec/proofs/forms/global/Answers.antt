use Rattle.hph_wread.proofs.Combinators.{took_then, handed_on}
use Rattle.hph_wdec.proofs.SegmentParts.{global_type_fails, global_init_fails}
use Rattle.hph_wdec.proofs.forms.global.Goals as goal

pub returns-in_err-ty-clause-stopped : goal.returns-in_err-ty-clause-stopped
returns-in_err-ty-clause-stopped c =
    let e = c.in_err-ty.field-0.0 in
    handed_on _ c.from_residual.result e c.from_residual.ensures.1 (global_type_fails e c.in_err-ty.ensures.stopped)

pub returns-in_err-init-clause-stopped : goal.returns-in_err-init-clause-stopped
returns-in_err-init-clause-stopped c =
    let e = c.in_err-init.field-0.0 in
    handed_on _ c.from_residual-in_err-init.result e c.from_residual-in_err-init.ensures.1
    (global_init_fails c.types_are_read_in_one_way.ensures.global_types c.parts_stop_in_one_place.ensures.global_types c.in_ok-ty.ty c.in_ok-ty.ensures.read e c.in_err-init.ensures.stopped)

pub returns-clause-read : goal.returns-clause-read
returns-clause-read c = took_then c.in_ok-ty.ensures.read c.in_ok-init.ensures.read
