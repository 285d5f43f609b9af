use Rattle.hph_size.proofs.Texts.{texts_short}
use Rattle.hph_size.proofs.laws.texts_are_short.Goals as goal

pub returns : goal.returns
returns c = texts_short c.expression_uses_a_front.ensures
