use Rattle.hph_program.proofs.OneProgram.{programs_are_one}
use Rattle.hph_program.proofs.laws.one_program.Goals as goal

pub returns : goal.returns
returns c = programs_are_one
