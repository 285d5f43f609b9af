use Rattle.hph_program.proofs.Contents.{contents_decide}
use Rattle.hph_program.proofs.laws.contents_decide.Goals as goal

pub returns : goal.returns
returns c = contents_decide
