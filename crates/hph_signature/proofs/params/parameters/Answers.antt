use Rattle.std.proofs.Common.{rules, arith}
use Rattle.std.proofs.lemmas.Grind.{common_steps}
use Rattle.hph_fstmt.specs.Declarations as declarations
use Rattle.hph_fstmt.specs.Parser as spec
use Rattle.hph_cursor.proofs.Turns.{one_more, no_more}
use Rattle.hph_signature.proofs.params.parameters.Goals as goal

pub returns-then-sees : goal.returns-then-sees
unfolding declarations.params_from
returns-then-sees g c =
    let e = one_more (λ n. declarations.params_from spec.expressions n c.loop-turn.found c.loop-turn.cursor) _ c.loop-turn._turn c.loop-turn-test.true c.loop-turn.invariant in
    first_of (search rules, grind (arith, common_steps))

pub returns-in_err-param : goal.returns-in_err-param
unfolding declarations.params_from
returns-in_err-param g c =
    let e = one_more (λ n. declarations.params_from spec.expressions n c.loop-turn.found c.loop-turn.cursor) _ c.loop-turn._turn c.loop-turn-test.true c.loop-turn.invariant in
    first_of (search rules, grind (arith, common_steps))

pub returns-in_err-expect : goal.returns-in_err-expect
unfolding declarations.params_from
returns-in_err-expect g c =
    let e = one_more (λ n. declarations.params_from spec.expressions n c.loop-turn.found c.loop-turn.cursor) _ c.loop-turn._turn c.loop-turn-test.true c.loop-turn.invariant in
    first_of (search rules, grind (arith, common_steps))

pub returns-then-not-sees : goal.returns-then-not-sees
unfolding declarations.params_from
returns-then-not-sees g c =
    let e = one_more (λ n. declarations.params_from spec.expressions n c.loop-turn.found c.loop-turn.cursor) _ c.loop-turn._turn c.loop-turn-test.true c.loop-turn.invariant in
    first_of (search rules, grind (arith, common_steps))

pub loop-turn-preserved : goal.loop-turn-preserved
unfolding declarations.params_from
loop-turn-preserved g c =
    let e = one_more (λ n. declarations.params_from spec.expressions n c.loop-turn.found c.loop-turn.cursor) _ c.loop-turn._turn c.loop-turn-test.true c.loop-turn.invariant in
    first_of (search rules, grind (arith, common_steps))

pub returns : goal.returns
unfolding declarations.params_from
returns g c =
    let e = no_more (λ n. declarations.params_from spec.expressions n c.loop-turn.found c.loop-turn.cursor) _ c.loop-turn._turn c.loop-turn-test.false c.loop-turn.invariant in
    first_of (search rules, grind (arith, common_steps))
