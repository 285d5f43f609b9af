use Rattle.std.proofs.Common.{w64}
use Rattle.hph_integers.proofs.Signs.{less_is}
use Rattle.hph_integers.proofs.wide.less_i64.Goals as goal

pub returns-in-Signed : goal.returns-in-Signed
returns-in-Signed c = rw c.in-Signed.is
    (less_is w64 _ _ _ _ c.ranges.i.fits c.ranges.j.fits c.cast_signed.ensures c.cast_signed-in-Signed.ensures)
