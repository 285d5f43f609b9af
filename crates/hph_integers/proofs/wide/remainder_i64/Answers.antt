use Rattle.std.proofs.Common.{w64}
use Rattle.hph_integers.proofs.Signs.{back}
use Rattle.hph_integers.proofs.Quotients.{no_remainder, remainder_unsigned, remainder_is}
use Rattle.hph_integers.proofs.wide.remainder_i64.Goals as goal

pub returns-then-j-eq0 : goal.returns-then-j-eq0
returns-then-j-eq0 c = no_remainder _ 64 _ _ c.if-j-eq0.true

pub returns-in-Unsigned : goal.returns-in-Unsigned
returns-in-Unsigned c = rw c.in-Unsigned.is (remainder_unsigned 64 _ _ c.if-j-eq0.false)

pub returns-in-Signed : goal.returns-in-Signed
returns-in-Signed c = rw c.in-Signed.is (remainder_is w64 _ _ _ _ _ _ c.ranges.i.fits c.ranges.j.fits c.if-j-eq0.false
    (back w64 _ _ c.cast_signed.ensures c.ranges.i.fits) (back w64 _ _ c.cast_signed-in-Signed.ensures c.ranges.j.fits) c.wrapping_rem.ensures c.cast_unsigned.ensures)
