use Rattle.std.proofs.Common.{◌≡◌, ◌-◌, length}
use Rattle.hph_fexpr.specs.Strings as spec
use Rattle.hph_fexpr.specs.Parser.{parse}
use Rattle.hph_enclosed.proofs.grammar.Grammar.parts.Given as goal

abbrev pub invariant-loop-turn : goal.invariant-loop-turn
invariant-loop-turn g l = spec.parts_from (parse l.self.depth) (length l.fn.cursor) l.fn.found l.fn.cursor ≡ spec.parts_from (parse l.self.depth) (l._turn-end - l._turn) l.found l.cursor
