use Rattle.std.proofs.Common.{subst}
use Rattle.hph_wasm.specs.Grammar.{Bytes}
use Rattle.hph_wasm.specs.Unsupported.{Any, Nowhere}
use Rattle.hph_wread.specs.Reading.{Fails}
use Rattle.hph_wread.proofs.Combinators.{handed_on}
use Rattle.hph_wdec.proofs.NextSection.{custom_bytes, custom_took, custom_unnamed, custom_nameless, content_within, named_content, name_is}
use Rattle.hph_wdec.proofs.sections.custom.Goals as goal

pub returns-in_err-content-clause-stopped : goal.returns-in_err-content-clause-stopped
returns-in_err-content-clause-stopped c =
    let e = c.in_err-content.field-0.0 in
    handed_on _ c.from_residual.result e c.from_residual.ensures.1 (custom_bytes e c.in_err-content.ensures.stopped)

pub returns-in-Ok-from_utf8-clause-read : goal.returns-in-Ok-from_utf8-clause-read
returns-in-Ok-from_utf8-clause-read c =
    custom_took c.in_ok-content.content.now c.in_ok-content.ensures.read (named_content c.in-Ok.name.now c.in-Ok.ensures.read c.in-Ok-from_utf8.ensures.cases.1)

pub returns-in-Err-from_utf8-clause-stopped : goal.returns-in-Err-from_utf8-clause-stopped
returns-in-Err-from_utf8-clause-stopped c =
    let law = c.types_are_read_in_one_way.ensures.bytes in
    let content = c.in_ok-content.content.now in
    custom_unnamed law content c.in_ok-content.ensures.read
    (λ named. c.in-Err-from_utf8.ensures.cases.0 (name_is law c.in-Ok.name.now c.in-Ok.ensures.read named)) _ (content_within content c.in_ok-content.ensures.read)

pub returns-in-Err-Malformed-clause-stopped : goal.returns-in-Err-Malformed-clause-stopped
returns-in-Err-Malformed-clause-stopped c =
    let content = c.in_ok-content.content.now in
    custom_nameless c.types_are_read_in_one_way.ensures.bytes content c.in_ok-content.ensures.read c.in-Err-Malformed.field-0-0
    (subst (λ e. Fails (Any Bytes) Nowhere content e) c.in-Err-Malformed.field-0-is c.in-Err-Malformed.ensures.stopped) _
    (content_within content c.in_ok-content.ensures.read)
