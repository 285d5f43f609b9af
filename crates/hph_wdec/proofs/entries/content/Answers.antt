use Rattle.std.proofs.Common.{length, sym, subst}
use Rattle.hph_wasm.specs.Grammar.{Sized}
use Rattle.hph_wasm.specs.Unsupported.{InSized}
use Rattle.hph_wread.specs.Reading.{Fails}
use Rattle.hph_wdec.specs.Sized.{moved_by}
use Rattle.hph_wasm.specs.Grammar.{Vector}
use Rattle.hph_wasm.specs.Unsupported.{Any, InVector}
use Rattle.hph_wread.proofs.Combinators.{handed_on, took_any}
use Rattle.hph_wread.proofs.Vectors.{vector_end, vector_apart}
use Rattle.hph_wdec.proofs.SizedParts.{sized_size, sized_inside, sized_unfilled, sized_took, sized_any}
use Rattle.hph_wdec.proofs.entries.content.Goals as goal

pub returns-in_err-size-clause-stopped : goal.returns-in_err-size-clause-stopped
returns-in_err-size-clause-stopped g c =
    let form = g.F.EntryForm in
    let e = c.in_err-size.field-0.0 in
    handed_on _ c.from_residual.result e c.from_residual.ensures.1
    (sized_any (Vector form.grammar) e (sized_size (Any (Vector form.grammar)) (InVector form.grammar form.fits form.stop) e c.in_err-size.ensures.stopped))

pub returns-in-Err-clause-stopped : goal.returns-in-Err-clause-stopped
returns-in-Err-clause-stopped g c =
    let form = g.F.EntryForm in
    let rest = c.within.result.1.now in
    let missing = sized_inside rest (c.types_are_read_in_one_way.ensures.unsigned 32) c.in_ok-size.size c.in_ok-size.ensures.read c.within.ensures.inside c.within.ensures.whole
    (Any (Vector form.grammar)) (InVector form.grammar form.fits form.stop) c.in-Err.fault c.in-Err.ensures.stopped in
    subst (λ e. Fails (Any (λ entries. Sized (Vector form.grammar entries))) (InSized (InVector form.grammar form.fits form.stop)) c.args.bytes.now e) (sym c.moved.ensures)
    (sized_any (Vector form.grammar) (moved_by (length rest) c.in-Err.fault) missing)

pub returns-then-not-is_filled-clause-stopped : goal.returns-then-not-is_filled-clause-stopped
returns-then-not-is_filled-clause-stopped g c =
    let form = g.F.EntryForm in
    let law = c.read_in_one_way.ensures in
    let number = c.types_are_read_in_one_way.ensures.unsigned 32 in
    let entries = c.in-Ok.entries in
    let read = c.in-Ok.ensures.read in
    sized_any (Vector form.grammar) _
    (sized_unfilled c.within.result.1.now number c.in_ok-size.size c.in_ok-size.ensures.read c.within.ensures.inside c.within.ensures.whole
    (Any (Vector form.grammar)) (InVector form.grammar form.fits form.stop) (vector_end number law.form) (vector_apart number law.form law.stops entries c.in-Ok.ensures.fit read)
    (took_any (Vector form.grammar) entries read) c.if-not-is_filled.ensures)

pub returns-else-not-is_filled-clause-read : goal.returns-else-not-is_filled-clause-read
returns-else-not-is_filled-clause-read g c =
    sized_took c.within.result.1.now (c.types_are_read_in_one_way.ensures.unsigned 32) c.in_ok-size.size c.in_ok-size.ensures.read c.within.ensures.inside c.within.ensures.whole
    (Vector g.F.EntryForm.grammar c.in-Ok.entries) c.in-Ok.ensures.read c.if-not-is_filled.ensures
