use Rattle.std.proofs.Common.{w64, sym, ◌∙◌}
use Rattle.hph_integers.proofs.Signs.{back, signed_is}
use Rattle.hph_value_rows.proofs.codes.signed.Goals as goal

pub returns : goal.returns
returns c = back w64 _ _ c.cast_signed.ensures c.ranges.bits.fits ∙ sym (signed_is w64 c.args.bits c.ranges.bits.fits)
