use Rattle.std.proofs.Common.{w64}
use Rattle.hph_integers.proofs.Signs.{back}
use Rattle.hph_integers.proofs.Shifts.{shifted_unsigned, shifted_is}
use Rattle.hph_integers.proofs.wide.shifted_right_i64.Goals as goal

pub returns-in-Unsigned : goal.returns-in-Unsigned
returns-in-Unsigned c = rw c.in-Unsigned.is (shifted_unsigned 64 _ _)

pub returns-in-Signed : goal.returns-in-Signed
returns-in-Signed c = rw c.in-Signed.is (shifted_is w64 _ _ _ _ c.ranges.i.fits c.requires (back w64 _ _ c.cast_signed.ensures c.ranges.i.fits) c.cast_unsigned.ensures)
