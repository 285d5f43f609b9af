use Rattle.hph_wread.proofs.SharedThings.{export_name, export_thing}
use Rattle.hph_wread.proofs.Combinators.{took_then, handed_on}
use Rattle.hph_wread.proofs.exports.export.Goals as goal

pub returns-in_err-name-clause-stopped : goal.returns-in_err-name-clause-stopped
returns-in_err-name-clause-stopped c =
    let e = c.in_err-name.field-0.0 in
    let f = c.in_err-name.ensures.stopped in
    handed_on _ c.from_residual.result e c.from_residual.ensures.1 (export_name e f)

pub returns-in_err-desc-clause-stopped : goal.returns-in_err-desc-clause-stopped
returns-in_err-desc-clause-stopped c =
    let e = c.in_err-desc.field-0.0 in
    let f = c.in_err-desc.ensures.stopped in
    handed_on _ c.from_residual-in_err-desc.result e c.from_residual-in_err-desc.ensures.1 (export_thing c.types_are_read_in_one_way.ensures.names c.in_ok-name.name c.in_ok-name.ensures.read e f)

pub returns-clause-read : goal.returns-clause-read
returns-clause-read c = took_then c.in_ok-name.ensures.read c.in_ok-desc.ensures.read
