use Rattle.std.proofs.Common.{◌≡◌, ◌-◌, suc}
use Rattle.hph_fexpr.specs.Postfix as spec
use Rattle.hph_fexpr.specs.Parser.{parse}
use Rattle.hph_postfix.proofs.chains.Chains.goes_on.Given as goal

abbrev pub invariant-loop-turn : goal.invariant-loop-turn
invariant-loop-turn g l = spec.goes_on (parse l.self.parts.depth) l.self.parts.depth l.fn.found l.fn.cursor ≡ spec.goes_on_from (parse l.self.parts.depth) (suc (l._turn-end - l._turn)) l.found l.cursor
