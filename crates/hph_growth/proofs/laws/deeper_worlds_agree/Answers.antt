-- The worlds of a program, by the depth.
use Rattle.hph_growth.proofs.RunLaws.{worlds_grow}
use Rattle.hph_growth.proofs.laws.deeper_worlds_agree.Goals as goal

pub returns : goal.returns
returns c = worlds_grow
