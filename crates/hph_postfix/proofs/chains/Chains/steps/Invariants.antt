use Rattle.std.proofs.Common.{◌≡◌, ◌-◌}
use Rattle.hph_fexpr.specs.Postfix as spec
use Rattle.hph_fexpr.specs.Parser.{parse}
use Rattle.hph_postfix.proofs.chains.Chains.steps.Given as goal

abbrev pub invariant-loop-turn : goal.invariant-loop-turn
invariant-loop-turn g l = spec.steps (parse l.self.parts.depth) l.fn.cursor ≡ spec.steps_from (parse l.self.parts.depth) (l._turn-end - l._turn) l.found l.cursor
