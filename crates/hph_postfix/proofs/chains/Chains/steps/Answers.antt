use Rattle.std.proofs.Common.{rules, arith}
use Rattle.std.proofs.lemmas.Grind.{common_steps}
use Rattle.hph_fexpr.specs.Postfix as spec
use Rattle.hph_fexpr.specs.Parser.{parse}
use Rattle.hph_cursor.proofs.Turns.{one_more, no_more}
use Rattle.hph_postfix.proofs.chains.Chains.steps.Goals as goal

pub loop-turn-init : goal.loop-turn-init
unfolding spec.steps
loop-turn-init g c = first_of (search rules, grind (arith, common_steps))

pub returns-in_err-index : goal.returns-in_err-index
unfolding spec.steps_from
returns-in_err-index g c =
    let e = one_more (λ n. spec.steps_from (parse c.args.self.now.parts.depth) n c.loop-turn.found c.loop-turn.cursor) _ c.loop-turn._turn c.loop-turn-test.true c.loop-turn.invariant in
    first_of (search rules, grind (arith, common_steps))

pub returns-in_err-name : goal.returns-in_err-name
unfolding spec.steps_from
returns-in_err-name g c =
    let e = one_more (λ n. spec.steps_from (parse c.args.self.now.parts.depth) n c.loop-turn.found c.loop-turn.cursor) _ c.loop-turn._turn c.loop-turn-test.true c.loop-turn.invariant in
    first_of (search rules, grind (arith, common_steps))

pub returns-then-sees-3 : goal.returns-then-sees-3
unfolding spec.steps_from
returns-then-sees-3 g c =
    let e = one_more (λ n. spec.steps_from (parse c.args.self.now.parts.depth) n c.loop-turn.found c.loop-turn.cursor) _ c.loop-turn._turn c.loop-turn-test.true c.loop-turn.invariant in
    first_of (search rules, grind (arith, common_steps))

pub returns-else-sees-2 : goal.returns-else-sees-2
unfolding spec.steps_from
returns-else-sees-2 g c =
    let e = one_more (λ n. spec.steps_from (parse c.args.self.now.parts.depth) n c.loop-turn.found c.loop-turn.cursor) _ c.loop-turn._turn c.loop-turn-test.true c.loop-turn.invariant in
    first_of (search rules, grind (arith, common_steps))

pub loop-turn-preserved : goal.loop-turn-preserved
unfolding spec.steps_from
loop-turn-preserved g c =
    let e = one_more (λ n. spec.steps_from (parse c.args.self.now.parts.depth) n c.loop-turn.found c.loop-turn.cursor) _ c.loop-turn._turn c.loop-turn-test.true c.loop-turn.invariant in
    first_of (search rules, grind (arith, common_steps))

pub returns : goal.returns
unfolding spec.steps_from
returns g c =
    let e = no_more (λ n. spec.steps_from (parse c.args.self.now.parts.depth) n c.loop-turn.found c.loop-turn.cursor) _ c.loop-turn._turn c.loop-turn-test.false c.loop-turn.invariant in
    first_of (search rules, grind (arith, common_steps))
