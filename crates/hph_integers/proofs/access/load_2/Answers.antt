use Rattle.std.proofs.Common.{refl}
use Rattle.hph_integers.proofs.Bytes.{joined}
use Rattle.hph_integers.proofs.access.load_2.Goals as goal

pub returns-clause-value : goal.returns-clause-value
returns-clause-value c = joined 1 1 _ _ _ _ 256 c.requires refl c.load_1.ensures.value c.load_1-2.ensures.value
