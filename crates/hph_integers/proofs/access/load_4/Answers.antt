use Rattle.std.proofs.Common.{refl}
use Rattle.hph_integers.proofs.Bytes.{joined}
use Rattle.hph_integers.proofs.access.load_4.Goals as goal

pub returns-clause-value : goal.returns-clause-value
returns-clause-value c = joined 2 2 _ _ _ _ 65536 c.requires refl c.load_2.ensures.value c.load_2-2.ensures.value
