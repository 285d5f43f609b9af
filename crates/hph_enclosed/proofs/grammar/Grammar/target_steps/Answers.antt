use Rattle.std.proofs.Common.{rules, arith}
use Rattle.std.proofs.lemmas.Grind.{common_steps}
use Rattle.hph_fexpr.specs.Classes as spec
use Rattle.hph_fexpr.specs.Parser.{parse}
use Rattle.hph_cursor.proofs.Turns.{one_more, no_more}
use Rattle.hph_enclosed.proofs.grammar.Grammar.target_steps.Goals as goal

pub returns-in_err-target_index : goal.returns-in_err-target_index
unfolding spec.target_steps_from
returns-in_err-target_index g c =
    let e = one_more (λ n. spec.target_steps_from (parse c.args.self.now.depth) n c.loop-turn.found c.loop-turn.cursor) _ c.loop-turn._turn c.loop-turn-test.true c.loop-turn.invariant in
    first_of (search rules, grind (arith, common_steps))

pub returns-in_err-target_property : goal.returns-in_err-target_property
unfolding spec.target_steps_from
returns-in_err-target_property g c =
    let e = one_more (λ n. spec.target_steps_from (parse c.args.self.now.depth) n c.loop-turn.found c.loop-turn.cursor) _ c.loop-turn._turn c.loop-turn-test.true c.loop-turn.invariant in
    first_of (search rules, grind (arith, common_steps))

pub returns-in_err-target_static_property : goal.returns-in_err-target_static_property
unfolding spec.target_steps_from
returns-in_err-target_static_property g c =
    let e = one_more (λ n. spec.target_steps_from (parse c.args.self.now.depth) n c.loop-turn.found c.loop-turn.cursor) _ c.loop-turn._turn c.loop-turn-test.true c.loop-turn.invariant in
    first_of (search rules, grind (arith, common_steps))

pub returns-else-sees-3 : goal.returns-else-sees-3
unfolding spec.target_steps_from
returns-else-sees-3 g c =
    let e = one_more (λ n. spec.target_steps_from (parse c.args.self.now.depth) n c.loop-turn.found c.loop-turn.cursor) _ c.loop-turn._turn c.loop-turn-test.true c.loop-turn.invariant in
    first_of (search rules, grind (arith, common_steps))

pub loop-turn-preserved : goal.loop-turn-preserved
unfolding spec.target_steps_from
loop-turn-preserved g c =
    let e = one_more (λ n. spec.target_steps_from (parse c.args.self.now.depth) n c.loop-turn.found c.loop-turn.cursor) _ c.loop-turn._turn c.loop-turn-test.true c.loop-turn.invariant in
    first_of (search rules, grind (arith, common_steps))

pub returns : goal.returns
unfolding spec.target_steps_from
returns g c =
    let e = no_more (λ n. spec.target_steps_from (parse c.args.self.now.depth) n c.loop-turn.found c.loop-turn.cursor) _ c.loop-turn._turn c.loop-turn-test.false c.loop-turn.invariant in
    first_of (search rules, grind (arith, common_steps))
