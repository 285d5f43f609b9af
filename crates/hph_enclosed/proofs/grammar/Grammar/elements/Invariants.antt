use Rattle.std.proofs.Common.{◌≡◌, ◌-◌}
use Rattle.hph_fexpr.specs.Arrays as spec
use Rattle.hph_fexpr.specs.Parser.{parse}
use Rattle.hph_enclosed.proofs.grammar.Grammar.elements.Given as goal

abbrev pub invariant-loop-turn : goal.invariant-loop-turn
invariant-loop-turn g l = spec.elements (parse l.self.depth) l.closing l.fn.cursor ≡ spec.elements_from (parse l.self.depth) l.closing (l._turn-end - l._turn) l.items l.targets l.cursor
