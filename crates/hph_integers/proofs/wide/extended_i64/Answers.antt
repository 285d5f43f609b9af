use Rattle.std.proofs.Common.{refl}
use Rattle.hph_integers.proofs.Signs.{extended_under, extended_over}
use Rattle.hph_integers.proofs.wide.extended_i64.Goals as goal

pub returns-then-i-bits : goal.returns-then-i-bits
returns-then-i-bits c = rw c.in-Signed.is (extended_under _ 64 _ c.requires.some c.requires.few c.requires.within c.if-i-bits.true)

pub returns-else-i-bits : goal.returns-else-i-bits
returns-else-i-bits c = rw c.in-Signed.is (extended_over _ 64 _ _ c.requires.some c.requires.few c.requires.within c.if-i-bits.false refl)
