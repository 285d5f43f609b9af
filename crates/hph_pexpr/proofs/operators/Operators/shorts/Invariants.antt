use Rattle.std.proofs.Common.{◌≡◌, ◌-◌, length}
use Rattle.hph_fexpr.specs.Climb as spec
use Rattle.hph_fexpr.specs.Parser.{parse}
use Rattle.hph_pexpr.proofs.operators.Operators.shorts.Given as goal

abbrev pub invariant-loop-turn : goal.invariant-loop-turn
invariant-loop-turn g l = spec.shorts_from (parse l.self.below.parts.depth) (length l.fn.cursor) l.fn.found l.fn.cursor ≡ spec.shorts_from (parse l.self.below.parts.depth) (l._turn-end - l._turn) l.found l.cursor
