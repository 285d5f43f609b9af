use Rattle.hph_integers.proofs.Bytes.{in_parts, shifted_4}
use Rattle.hph_integers.proofs.access.store_8.Goals as goal

pub returns : goal.returns
returns c = in_parts _ 4 4 _ _ _ _ _ c.requires (shifted_4 _) c.store_4.ensures c.store_4-2.ensures
