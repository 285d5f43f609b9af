use Rattle.std.proofs.Common.{w64, sym, ap, ◌∙◌}
use Rattle.std.proofs.lemmas.Int.{to_z-of_z}
use mir.Val.{of_z}
use Rattle.hph_integers.proofs.Signs.{unsigned_is}
use Rattle.hph_value_rows.proofs.codes.unsigned.Goals as goal

pub returns : goal.returns
returns c =
    c.cast_unsigned.ensures ∙ ap (of_z w64) (to_z-of_z w64 c.args.number c.ranges.number)
    ∙ sym (unsigned_is w64 c.args.number c.ranges.number.sfits)
