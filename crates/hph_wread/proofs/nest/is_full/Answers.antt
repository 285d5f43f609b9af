use Rattle.std.proofs.Common.{rules}
use Rattle.hph_wread.proofs.nest.is_full.Goals as goal

pub returns : goal.returns
returns c = search rules
