use Rattle.hph_type.proofs.RankLaws.{types_have_ranks}
use Rattle.hph_type.proofs.laws.types_have_ranks.Goals as goal

pub returns : goal.returns
returns c = types_have_ranks
