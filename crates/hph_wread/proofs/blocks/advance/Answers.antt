use Rattle.hph_wread.proofs.SequenceFaults.{bytes_end}
use Rattle.hph_wread.proofs.blocks.advance.Goals as goal

pub returns-in-None-clause-stopped : goal.returns-in-None-clause-stopped
returns-in-None-clause-stopped c = λ whole p. bytes_end c.instruction_laws.ensures c.args.nest.now p c.in-None.ensures
