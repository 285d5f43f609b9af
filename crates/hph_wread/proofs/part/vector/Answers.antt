use Rattle.hph_wasm.specs.Unsupported.{Among}
use Rattle.hph_wread.specs.Counted.{Counted}
use Rattle.hph_wread.proofs.Combinators.{handed_on}
use Rattle.hph_wread.proofs.Vectors.{dependent_first, dependent_second, vector_fails, took_vector}
use Rattle.hph_wread.proofs.part.vector.Goals as goal

pub returns-in_err-count-clause-stopped : goal.returns-in_err-count-clause-stopped
returns-in_err-count-clause-stopped g c =
    let part = g.T.Part in
    let e = c.in_err-count.field-0.0 in
    handed_on _ c.from_residual.result e c.from_residual.ensures.1
    (vector_fails part.grammar part.fits part.stop e (dependent_first (λ n. Counted part.grammar n) (λ n. Among n part.grammar part.fits part.stop) e c.in_err-count.ensures.stopped))

pub returns-in_err-items-clause-stopped : goal.returns-in_err-items-clause-stopped
returns-in_err-items-clause-stopped g c =
    let part = g.T.Part in
    let e = c.in_err-items.field-0.0 in
    handed_on _ c.from_residual-in_err-items.result e c.from_residual-in_err-items.ensures.1
    (vector_fails part.grammar part.fits part.stop e
    (dependent_second (c.types_are_read_in_one_way.ensures.unsigned 32) c.in_ok-count.count (λ n. Counted part.grammar n) (λ n. Among n part.grammar part.fits part.stop) c.in_ok-count.ensures.read e c.in_err-items.ensures.stopped))

pub returns-clause-read : goal.returns-clause-read
returns-clause-read g c = took_vector g.T.Part.grammar c.in_ok-items.items c.in_ok-count.count c.in_ok-count.ensures.read c.in_ok-items.ensures.count c.in_ok-items.ensures.read
