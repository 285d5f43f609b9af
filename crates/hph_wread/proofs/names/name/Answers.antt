use Rattle.std.proofs.Common.{◌∙◌}
use Rattle.hph_wread.proofs.SpelledNames.{name_bytes, name_invalid, name_took}
use Rattle.hph_wread.proofs.Combinators.{handed_on}
use Rattle.hph_wread.proofs.names.name.Goals as goal

pub returns-in_err-these-clause-stopped : goal.returns-in_err-these-clause-stopped
returns-in_err-these-clause-stopped c =
    let e = c.in_err-these.field-0.0 in
    let f = c.in_err-these.ensures.stopped in
    handed_on _ c.from_residual.result e c.from_residual.ensures.1 (name_bytes e f)

pub returns-in_default-clause-stopped : goal.returns-in_default-clause-stopped
returns-in_default-clause-stopped c = name_invalid c.types_are_read_in_one_way.ensures.bytes c.in_ok-these.these.now c.in_ok-these.ensures.read c.in_default.ensures.cases.0

pub returns-clause-read : goal.returns-clause-read
returns-clause-read c =
    let these = c.in_ok-these.these.now in
    name_took these c.in_ok-name.name c.in_ok-these.ensures.read c.in-Ok.ensures.cases.1 (c.in_ok-name.ensures ∙ c.in-Ok.ensures.cases.0)
