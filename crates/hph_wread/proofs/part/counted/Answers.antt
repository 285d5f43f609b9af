use Rattle.std.proofs.Common.{[], ◌∷◌, arith, length-append}
use Rattle.hph_wread.proofs.Combinators.{handed_on}
use Rattle.hph_wread.proofs.Vectors.{each_fails, each_more, fits_more}
use Rattle.hph_wread.proofs.part.counted.Goals as goal

pub returns-in_err-item-clause-stopped : goal.returns-in_err-item-clause-stopped
returns-in_err-item-clause-stopped g c =
    let e = c.in_err-item.field-0.0 in
    let before = c.loop.invariant in
    let law = c.read_in_one_way.ensures in
    handed_on _ c.from_residual.result e c.from_residual.ensures.1
    (each_fails law.form law.stops c.args.count c.loop.items (omega arith) before.fit before.took e c.in_err-item.ensures.stopped)

pub loop-preserved : goal.loop-preserved
loop-preserved g c =
    let before = c.loop.invariant in
    rw c.in_ok-push.ensures.ok (record {
      took = each_more g.T.Part.grammar c.loop.items c.in_ok-item.item before.took c.in_ok-item.ensures.read;
      fit = fits_more g.T.Part.fits c.loop.items c.in_ok-item.item before.fit c.in_ok-item.ensures.fit;
      counted = omega (arith, length-append c.loop.items (c.in_ok-item.item ∷ []));
    })
