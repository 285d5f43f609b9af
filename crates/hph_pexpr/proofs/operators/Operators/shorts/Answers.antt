use Rattle.std.proofs.Common.{rules, arith}
use Rattle.std.proofs.lemmas.Grind.{common_steps}
use Rattle.hph_fexpr.specs.Climb as spec
use Rattle.hph_fexpr.specs.Parser.{parse}
use Rattle.hph_cursor.proofs.Turns.{one_more, no_more}
use Rattle.hph_pexpr.proofs.operators.Operators.shorts.Goals as goal

pub returns-then-not-sees : goal.returns-then-not-sees
unfolding spec.shorts_from
returns-then-not-sees g c =
    let e = one_more (λ n. spec.shorts_from (parse c.args.self.now.below.parts.depth) n c.loop-turn.found c.loop-turn.cursor) _ c.loop-turn._turn c.loop-turn-test.true c.loop-turn.invariant in
    first_of (search rules, grind (arith, common_steps))

pub returns-in_err-expect : goal.returns-in_err-expect
unfolding spec.shorts_from
returns-in_err-expect g c =
    let e = one_more (λ n. spec.shorts_from (parse c.args.self.now.below.parts.depth) n c.loop-turn.found c.loop-turn.cursor) _ c.loop-turn._turn c.loop-turn-test.true c.loop-turn.invariant in
    first_of (search rules, grind (arith, common_steps))

pub returns-in_err-level : goal.returns-in_err-level
unfolding spec.shorts_from
returns-in_err-level g c =
    let e = one_more (λ n. spec.shorts_from (parse c.args.self.now.below.parts.depth) n c.loop-turn.found c.loop-turn.cursor) _ c.loop-turn._turn c.loop-turn-test.true c.loop-turn.invariant in
    first_of (search rules, grind (arith, common_steps))

pub loop-turn-preserved : goal.loop-turn-preserved
unfolding spec.shorts_from
loop-turn-preserved g c =
    let e = one_more (λ n. spec.shorts_from (parse c.args.self.now.below.parts.depth) n c.loop-turn.found c.loop-turn.cursor) _ c.loop-turn._turn c.loop-turn-test.true c.loop-turn.invariant in
    first_of (search rules, grind (arith, common_steps))

pub returns : goal.returns
unfolding spec.shorts_from
returns g c =
    let e = no_more (λ n. spec.shorts_from (parse c.args.self.now.below.parts.depth) n c.loop-turn.found c.loop-turn.cursor) _ c.loop-turn._turn c.loop-turn-test.false c.loop-turn.invariant in
    first_of (search rules, grind (arith, common_steps))
