use Rattle.hph_type.proofs.KindLaws.{kinds_of-and}
use Rattle.hph_type.proofs.kind.intersection.Goals as goal

pub returns-clause-kinds : goal.returns-clause-kinds
returns-clause-kinds c = kinds_of-and c.args.a c.args.b
