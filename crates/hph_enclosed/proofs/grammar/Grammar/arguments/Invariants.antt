use Rattle.std.proofs.Common.{◌≡◌, ◌-◌}
use Rattle.hph_fexpr.specs.Lists as spec
use Rattle.hph_fexpr.specs.Parser.{parse}
use Rattle.hph_enclosed.proofs.grammar.Grammar.arguments.Given as goal

abbrev pub invariant-loop-turn : goal.invariant-loop-turn
invariant-loop-turn g l = spec.arguments (parse l.self.depth) l.fn.cursor ≡ spec.arguments_from (parse l.self.depth) (l._turn-end - l._turn) l.found l.cursor
