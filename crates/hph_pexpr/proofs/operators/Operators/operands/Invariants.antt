use Rattle.std.proofs.Common.{◌≡◌, ◌-◌, length, []}
use Rattle.hph_fexpr.specs.Climb as spec
use Rattle.hph_fexpr.specs.Parser.{parse}
use Rattle.hph_pexpr.proofs.operators.Operators.operands.Given as goal

abbrev pub invariant-loop-turn : goal.invariant-loop-turn
invariant-loop-turn g l = spec.operands_from (parse l.self.below.parts.depth) l.level (length l.fn.cursor) [] l.fn.cursor ≡ spec.operands_from (parse l.self.below.parts.depth) l.level (l._turn-end - l._turn) l.found l.cursor
