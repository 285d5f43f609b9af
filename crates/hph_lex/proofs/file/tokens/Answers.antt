use Rattle.hph_lex.proofs.ReadSoFar.{only_reading}
use Rattle.hph_lex.proofs.file.tokens.Goals as goal

pub returns-clause-only : goal.returns-clause-only
returns-clause-only c = only_reading c.one_reading.ensures.reading c.args.bytes.now c.read.result c.read.ensures.spelled
    c.read.ensures.fault
