use Rattle.hph_lex.specs.Classes.{ends}
use Rattle.hph_lex.proofs.EndingLaws.{first_or_all}
use Rattle.hph_lex.proofs.ending.Ending.length.Goals as goal

pub returns : goal.returns
returns c = first_or_all (ends c.args.self) c.args.bytes.now c.first.result _ c.requires c.first.ensures c.unwrap_or.ensures
