use Rattle.std.proofs.Common.{[], ap}
use Rattle.hph_wave.specs.Known.{spelled}
use Rattle.hph_wave.proofs.known.KnownPaths.new.Goals as goal

pub returns : goal.returns
returns c = c.in_ok-insert.ensures [] [] (ap spelled c.new-paths.ensures.empty)
