use Rattle.std.proofs.Common.{[], ◌∷◌, arith, length-append}
use Rattle.hph_wread.proofs.Combinators.{handed_on}
use Rattle.hph_wread.proofs.Vectors.{each_fails, each_more, fits_more}
use Rattle.hph_wdec.proofs.entries.counted_entries.Goals as goal

pub returns-in_err-entry-clause-stopped : goal.returns-in_err-entry-clause-stopped
returns-in_err-entry-clause-stopped g c =
    let e = c.in_err-entry.field-0.0 in
    let before = c.loop.invariant in
    let law = c.read_in_one_way.ensures in
    handed_on _ c.from_residual.result e c.from_residual.ensures.1
    (each_fails law.form law.stops c.args.count c.loop.entries (omega arith) before.fit before.took e c.in_err-entry.ensures.stopped)

pub loop-preserved : goal.loop-preserved
loop-preserved g c =
    let before = c.loop.invariant in
    rw c.in_ok-push.ensures.ok (record {
      took = each_more g.F.EntryForm.grammar c.loop.entries c.in_ok-entry.entry before.took c.in_ok-entry.ensures.read;
      fit = fits_more g.F.EntryForm.fits c.loop.entries c.in_ok-entry.entry before.fit c.in_ok-entry.ensures.fit;
      counted = omega (arith, length-append c.loop.entries (c.in_ok-entry.entry ∷ []));
    })
