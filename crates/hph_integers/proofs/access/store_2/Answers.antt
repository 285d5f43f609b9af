use Rattle.hph_integers.proofs.Bytes.{in_parts, shifted_1}
use Rattle.hph_integers.proofs.access.store_2.Goals as goal

pub returns : goal.returns
returns c = in_parts _ 1 1 _ _ _ _ _ c.requires (shifted_1 _) c.store_1.ensures c.store_1-2.ensures
