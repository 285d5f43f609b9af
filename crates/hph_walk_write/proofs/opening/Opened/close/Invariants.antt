use Rattle.std.proofs.Common.{◌≡◌, vec_len}
use Rattle.hph_value.specs.Shown.{value_of}
use Rattle.hph_walk_write.specs.Levels.{closed}
use Rattle.hph_walk_write.proofs.opening.Opened.close.Given as goal

abbrev pub invariant-levels : goal.invariant-levels
invariant-levels l = closed l.levels.items (value_of l.value) ≡ closed l.fn.self.levels.items (value_of l.fn.value)

abbrev pub decreases-levels : goal.decreases-levels
decreases-levels l = vec_len l.levels
