use Rattle.std.proofs.lemmas.Nat.{or_lt}
use Rattle.hph_type.proofs.KindLaws.{kinds_of-or}
use Rattle.hph_type.proofs.kind.union.Goals as goal

pub returns-clause-within : goal.returns-clause-within
returns-clause-within c = or_lt 5 c.args.a c.args.b c.requires.left c.requires.right

pub returns-clause-kinds : goal.returns-clause-kinds
returns-clause-kinds c = kinds_of-or c.args.a c.args.b
