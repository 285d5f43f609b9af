use Rattle.std.proofs.Common.{w32}
use Rattle.hph_integers.proofs.Signs.{less_is}
use Rattle.hph_integers.proofs.word.less_i32.Goals as goal

pub returns-in-Signed : goal.returns-in-Signed
returns-in-Signed c = rw c.in-Signed.is
    (less_is w32 _ _ _ _ c.ranges.i.fits c.ranges.j.fits c.cast_signed.ensures c.cast_signed-in-Signed.ensures)
