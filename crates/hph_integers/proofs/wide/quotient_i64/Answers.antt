use Rattle.std.proofs.Common.{w64}
use Rattle.hph_integers.proofs.Signs.{back}
use Rattle.hph_integers.proofs.Quotients.{quotient_is, no_quotient_is}
use Rattle.hph_integers.proofs.wide.quotient_i64.Goals as goal

pub returns-in-None : goal.returns-in-None
returns-in-None c = rw c.in-Signed.is (no_quotient_is w64 _ _ _ _ c.ranges.i.fits c.ranges.j.fits c.if-j-eq0.false
    (back w64 _ _ c.cast_signed.ensures c.ranges.i.fits) (back w64 _ _ c.cast_signed-in-Signed.ensures c.ranges.j.fits) c.in-None.ensures)

pub returns-in-Some : goal.returns-in-Some
returns-in-Some c = rw c.in-Signed.is (quotient_is w64 _ _ _ _ _ _ c.ranges.i.fits c.ranges.j.fits c.if-j-eq0.false
    (back w64 _ _ c.cast_signed.ensures c.ranges.i.fits) (back w64 _ _ c.cast_signed-in-Signed.ensures c.ranges.j.fits) c.in-Some.ensures.1 c.in-Some.ensures.0.1.sfits c.cast_unsigned.ensures)
