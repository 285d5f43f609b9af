use Rattle.std.proofs.Common.{refl}
use Rattle.hph_integers.proofs.Bytes.{joined}
use Rattle.hph_integers.proofs.access.load_8.Goals as goal

pub returns : goal.returns
returns c = joined 4 4 _ _ _ _ 4294967296 c.requires refl c.load_4.ensures.value c.load_4-2.ensures.value
