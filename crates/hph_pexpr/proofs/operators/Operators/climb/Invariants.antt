use Rattle.std.proofs.Common.{◌≡◌, ◌≤◌}
use Rattle.hph_ast.specs.Levels as levels
use Rattle.hph_fexpr.specs.Climb as spec
use Rattle.hph_fexpr.specs.Parser.{parse}
use Rattle.hph_pexpr.proofs.operators.Operators.climb.Given as goal

abbrev pub invariant-loop-level : goal.invariant-loop-level
invariant-loop-level g l = record { small : l.level ≤ 23; bound : l.binds ≡ levels.next l.cursor; same : spec.climb (parse l.self.below.parts.depth) l.least levels.top l.fn.found l.fn.cursor ≡ spec.climb (parse l.self.below.parts.depth) l.least l.level l.found l.cursor }

abbrev pub decreases-loop-level : goal.decreases-loop-level
decreases-loop-level g l = l.level
