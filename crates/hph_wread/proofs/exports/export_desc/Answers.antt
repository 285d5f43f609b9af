use Rattle.hph_wread.proofs.SharedThings.{thing_kind, thing_number, thing_took}
use Rattle.hph_wread.proofs.Combinators.{handed_on}
use Rattle.hph_wread.proofs.exports.export_desc.Goals as goal

pub returns-in_err-kind-clause-stopped : goal.returns-in_err-kind-clause-stopped
returns-in_err-kind-clause-stopped c =
    let e = c.in_err-kind.field-0.0 in
    let f = c.in_err-kind.ensures.stopped in
    handed_on _ c.from_residual.result e c.from_residual.ensures.1 (thing_kind e f)

pub returns-in_err-number-clause-stopped : goal.returns-in_err-number-clause-stopped
returns-in_err-number-clause-stopped c =
    let e = c.in_err-number.field-0.0 in
    let f = c.in_err-number.ensures.stopped in
    handed_on _ c.from_residual-in_err-number.result e c.from_residual-in_err-number.ensures.1 (thing_number c.in_ok-kind.kind c.in_ok-kind.ensures.read e f)

pub returns-clause-read : goal.returns-clause-read
returns-clause-read c = thing_took c.export_of.result c.in_ok-kind.kind c.in_ok-kind.ensures.read c.in_ok-number.number c.in_ok-number.ensures.read c.export_of.ensures
