use Rattle.hph_wasm.specs.Unsupported.{Among}
use Rattle.hph_wread.specs.Counted.{Counted}
use Rattle.hph_wread.proofs.Combinators.{handed_on}
use Rattle.hph_wread.proofs.Vectors.{dependent_first, dependent_second, vector_fails, took_vector}
use Rattle.hph_wdec.proofs.entries.entries.Goals as goal

pub returns-in_err-count-clause-stopped : goal.returns-in_err-count-clause-stopped
returns-in_err-count-clause-stopped g c =
    let form = g.F.EntryForm in
    let e = c.in_err-count.field-0.0 in
    handed_on _ c.from_residual.result e c.from_residual.ensures.1
    (vector_fails form.grammar form.fits form.stop e
    (dependent_first (λ n. Counted form.grammar n) (λ n. Among n form.grammar form.fits form.stop) e c.in_err-count.ensures.stopped))

pub returns-in_err-entries-clause-stopped : goal.returns-in_err-entries-clause-stopped
returns-in_err-entries-clause-stopped g c =
    let form = g.F.EntryForm in
    let e = c.in_err-entries.field-0.0 in
    handed_on _ c.from_residual-in_err-entries.result e c.from_residual-in_err-entries.ensures.1
    (vector_fails form.grammar form.fits form.stop e
    (dependent_second (c.types_are_read_in_one_way.ensures.unsigned 32) c.in_ok-count.count (λ n. Counted form.grammar n) (λ n. Among n form.grammar form.fits form.stop) c.in_ok-count.ensures.read e c.in_err-entries.ensures.stopped))

pub returns-clause-read : goal.returns-clause-read
returns-clause-read g c =
    took_vector g.F.EntryForm.grammar c.in_ok-entries.entries c.in_ok-count.count c.in_ok-count.ensures.read c.in_ok-entries.ensures.count c.in_ok-entries.ensures.read
