use Rattle.hph_accept.proofs.Words.{ignored}
use Rattle.hph_accept.proofs.names.is_word.Goals as goal

pub returns : goal.returns
returns c = ignored c.args.word.now c.args.name.now c.eq_ignore_ascii_case.result c.requires c.eq_ignore_ascii_case.ensures.test
