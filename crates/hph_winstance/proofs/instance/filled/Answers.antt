use Rattle.hph_winstance.proofs.Overwrites.{data_fits, elements_fit}
use Rattle.hph_winstance.proofs.instance.filled.Goals as goal

pub memory_at_start-requires-clause-fit : goal.memory_at_start-requires-clause-fit
memory_at_start-requires-clause-fit c = data_fits c.args.m.now c.requires.fit

pub table_at_start-requires-clause-fit : goal.table_at_start-requires-clause-fit
table_at_start-requires-clause-fit c = elements_fit c.args.m.now c.requires.fit
