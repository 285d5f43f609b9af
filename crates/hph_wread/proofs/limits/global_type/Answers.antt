use Rattle.hph_wread.proofs.SizeLimits.{global_value, global_flag, global_took}
use Rattle.hph_wread.proofs.Combinators.{handed_on}
use Rattle.hph_wread.proofs.limits.global_type.Goals as goal

pub returns-in_err-value-clause-stopped : goal.returns-in_err-value-clause-stopped
returns-in_err-value-clause-stopped c =
    let e = c.in_err-value.field-0.0 in
    let f = c.in_err-value.ensures.stopped in
    handed_on _ c.from_residual.result e c.from_residual.ensures.1 (global_value e f)

pub returns-in_err-mutable-clause-stopped : goal.returns-in_err-mutable-clause-stopped
returns-in_err-mutable-clause-stopped c =
    let e = c.in_err-mutable.field-0.0 in
    let f = c.in_err-mutable.ensures.stopped in
    handed_on _ c.from_residual-in_err-mutable.result e c.from_residual-in_err-mutable.ensures.1 (global_flag c.types_are_read_in_one_way.ensures.value_types c.parts_stop_in_one_place.ensures.value_types c.in_ok-value.value c.in_ok-value.ensures.read e f)

pub returns-clause-read : goal.returns-clause-read
returns-clause-read c = global_took c.global_of.result c.in_ok-value.value c.global_of.ensures.value c.in_ok-value.ensures.read c.in_ok-mutable.mutable c.global_of.ensures.mutable c.in_ok-mutable.ensures.read
