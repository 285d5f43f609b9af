use Rattle.std.proofs.Common.{w32}
use Rattle.hph_integers.proofs.Signs.{back}
use Rattle.hph_integers.proofs.Shifts.{shifted_unsigned, shifted_is}
use Rattle.hph_integers.proofs.word.shifted_right_i32.Goals as goal

pub returns-in-Unsigned : goal.returns-in-Unsigned
returns-in-Unsigned c = rw c.in-Unsigned.is (shifted_unsigned 32 _ _)

pub returns-in-Signed : goal.returns-in-Signed
returns-in-Signed c = rw c.in-Signed.is (shifted_is w32 _ _ _ _ c.ranges.i.fits c.requires (back w32 _ _ c.cast_signed.ensures c.ranges.i.fits) c.cast_unsigned.ensures)
