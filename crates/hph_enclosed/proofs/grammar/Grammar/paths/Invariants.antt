use Rattle.std.proofs.Common.{◌≡◌, ◌-◌}
use Rattle.hph_fexpr.specs.Lists as spec
use Rattle.hph_enclosed.specs.Nests.{passes}
use Rattle.hph_fexpr.specs.Parser.{parse}
use Rattle.hph_enclosed.proofs.grammar.Grammar.paths.Given as goal

abbrev pub invariant-loop-turn : goal.invariant-loop-turn
invariant-loop-turn g l = spec.paths (parse l.self.depth) (passes l.test) l.fn.cursor ≡ spec.paths_from (parse l.self.depth) (passes l.test) (l._turn-end - l._turn) l.found l.cursor
