use Rattle.std.proofs.Common.{w32, ◌∙◌}
use Rattle.hph_integers.proofs.Shifts.{rotated_none, rotated_is}
use Rattle.hph_integers.proofs.word.rotated_left_i32.Goals as goal

pub returns-then-k-eq0 : goal.returns-then-k-eq0
returns-then-k-eq0 c = rotated_none w32 _ _ c.ranges.i.fits c.if-k-eq0.true

pub returns-else-k-eq0 : goal.returns-else-k-eq0
returns-else-k-eq0 c = c.rotate_left.ensures ∙ rotated_is w32 _ _ c.ranges.i.fits c.requires c.if-k-eq0.false
