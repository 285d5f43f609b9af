use Rattle.std.proofs.Common.{rules, arith, ◌∙◌, ◌≢◌, ◌≡◌, ◌-◌}
use Rattle.std.proofs.lemmas.Grind.{common_steps}
use Rattle.std.proofs.lemmas.Bool.Decides.{nat_tests}
use Rattle.hph_ast.specs.Levels as levels
use Rattle.hph_fexpr.specs.Parser.{parse}
use Rattle.hph_pexpr.proofs.Climbs.{climb_here, climb_past, climb_stops}
use Rattle.hph_pexpr.proofs.operators.Operators.climb.Goals as goal

pub returns-in_err-found : goal.returns-in_err-found
returns-in_err-found g c =
    let at : levels.next c.loop-level.cursor ≡ c.loop-level.level - 1 = omega (arith, c.loop-level.invariant.bound, c.if-binds-level.true) in
    let e = c.loop-level.invariant.same ∙ climb_here (parse c.args.self.now.below.parts.depth) c.args.least c.loop-level.level c.loop-level.found c.loop-level.cursor (omega arith) at in
    first_of (search rules, grind (arith, common_steps))

pub loop-level-preserved-then-binds-level : goal.loop-level-preserved-then-binds-level
loop-level-preserved-then-binds-level g c =
    let at : levels.next c.loop-level.cursor ≡ c.loop-level.level - 1 = omega (arith, c.loop-level.invariant.bound, c.if-binds-level.true) in
    let e = c.loop-level.invariant.same ∙ climb_here (parse c.args.self.now.below.parts.depth) c.args.least c.loop-level.level c.loop-level.found c.loop-level.cursor (omega arith) at in
    record { small = omega arith; bound = first_of (search rules, grind (arith, common_steps)); same = first_of (search rules, grind (arith, common_steps)) }

pub loop-level-preserved : goal.loop-level-preserved
loop-level-preserved g c =
    let at : levels.next c.loop-level.cursor ≢ c.loop-level.level - 1 = omega (arith, c.loop-level.invariant.bound, c.if-binds-level.false) in
    let e = c.loop-level.invariant.same ∙ climb_past (parse c.args.self.now.below.parts.depth) c.args.least c.loop-level.level c.loop-level.found c.loop-level.cursor (omega arith) at in
    record { small = omega arith; bound = c.loop-level.invariant.bound; same = e }

pub returns-then-binds-least : goal.returns-then-binds-least
returns-then-binds-least g c =
    let e = c.loop-level.invariant.same ∙ climb_stops (parse c.args.self.now.below.parts.depth) c.args.least c.loop-level.level c.loop-level.found c.loop-level.cursor (omega arith) in
    first_of (search rules, grind (arith, common_steps, nat_tests))

pub returns-else-binds-least : goal.returns-else-binds-least
returns-else-binds-least g c =
    let e = c.loop-level.invariant.same ∙ climb_stops (parse c.args.self.now.below.parts.depth) c.args.least c.loop-level.level c.loop-level.found c.loop-level.cursor (omega arith) in
    first_of (search rules, grind (arith, common_steps, nat_tests))
