use Rattle.std.proofs.Common.{◌≡◌, ◌-◌, length, []}
use Rattle.hph_fexpr.specs.Classes as spec
use Rattle.hph_fexpr.specs.Parser.{parse}
use Rattle.hph_enclosed.proofs.grammar.Grammar.target_steps.Given as goal

abbrev pub invariant-loop-turn : goal.invariant-loop-turn
invariant-loop-turn g l = spec.target_steps_from (parse l.self.depth) (length l.fn.cursor) [] l.fn.cursor ≡ spec.target_steps_from (parse l.self.depth) (l._turn-end - l._turn) l.found l.cursor
