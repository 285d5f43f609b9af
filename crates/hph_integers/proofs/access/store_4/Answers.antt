use Rattle.hph_integers.proofs.Bytes.{in_parts, shifted_2}
use Rattle.hph_integers.proofs.access.store_4.Goals as goal

pub returns : goal.returns
returns c = in_parts _ 2 2 _ _ _ _ _ c.requires (shifted_2 _) c.store_2.ensures c.store_2-2.ensures
