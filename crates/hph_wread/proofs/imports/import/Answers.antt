use Rattle.hph_wread.proofs.SharedThings.{import_host, import_name, import_thing}
use Rattle.hph_wread.proofs.Combinators.{took_then, handed_on}
use Rattle.hph_wread.proofs.imports.import.Goals as goal

pub returns-in_err-host-clause-stopped : goal.returns-in_err-host-clause-stopped
returns-in_err-host-clause-stopped c =
    let e = c.in_err-host.field-0.0 in
    let f = c.in_err-host.ensures.stopped in
    handed_on _ c.from_residual.result e c.from_residual.ensures.1 (import_host e f)

pub returns-in_err-thing-clause-stopped : goal.returns-in_err-thing-clause-stopped
returns-in_err-thing-clause-stopped c =
    let e = c.in_err-thing.field-0.0 in
    let f = c.in_err-thing.ensures.stopped in
    handed_on _ c.from_residual-in_err-thing.result e c.from_residual-in_err-thing.ensures.1 (import_name c.types_are_read_in_one_way.ensures.names c.in_ok-host.host c.in_ok-host.ensures.read e f)

pub returns-in_err-desc-clause-stopped : goal.returns-in_err-desc-clause-stopped
returns-in_err-desc-clause-stopped c =
    let e = c.in_err-desc.field-0.0 in
    let f = c.in_err-desc.ensures.stopped in
    handed_on _ c.from_residual-in_err-desc.result e c.from_residual-in_err-desc.ensures.1 (import_thing c.types_are_read_in_one_way.ensures.names c.in_ok-host.host c.in_ok-thing.thing c.in_ok-host.ensures.read c.in_ok-thing.ensures.read e f)

pub returns-clause-read : goal.returns-clause-read
returns-clause-read c = took_then c.in_ok-host.ensures.read (took_then c.in_ok-thing.ensures.read c.in_ok-desc.ensures.read)
