use Rattle.std.proofs.Common.{rules, arith, suc}
use Rattle.std.proofs.lemmas.Grind.{common_steps}
use Rattle.hph_fexpr.specs.Postfix as spec
use Rattle.hph_fexpr.specs.Parser.{parse}
use Rattle.hph_cursor.proofs.Turns.{one_more, no_more}
use Rattle.hph_postfix.proofs.chains.Chains.goes_on.Goals as goal

pub loop-turn-init : goal.loop-turn-init
unfolding spec.goes_on
loop-turn-init g c = first_of (search rules, grind (arith, common_steps))

pub returns-in_err-longer : goal.returns-in_err-longer
unfolding spec.goes_on_from
returns-in_err-longer g c =
    let e = one_more (λ n. spec.goes_on_from (parse c.args.self.now.parts.depth) (suc n) c.loop-turn.found c.loop-turn.cursor) _ c.loop-turn._turn c.loop-turn-test.true c.loop-turn.invariant in
    first_of (search rules, grind (arith, common_steps))

pub returns-in-Whole : goal.returns-in-Whole
unfolding spec.goes_on_from
returns-in-Whole g c =
    let e = one_more (λ n. spec.goes_on_from (parse c.args.self.now.parts.depth) (suc n) c.loop-turn.found c.loop-turn.cursor) _ c.loop-turn._turn c.loop-turn-test.true c.loop-turn.invariant in
    first_of (search rules, grind (arith, common_steps))

pub loop-turn-preserved : goal.loop-turn-preserved
unfolding spec.goes_on_from
loop-turn-preserved g c =
    let e = one_more (λ n. spec.goes_on_from (parse c.args.self.now.parts.depth) (suc n) c.loop-turn.found c.loop-turn.cursor) _ c.loop-turn._turn c.loop-turn-test.true c.loop-turn.invariant in
    first_of (search rules, grind (arith, common_steps))

pub returns : goal.returns
unfolding spec.goes_on_from
returns g c =
    let e = no_more (λ n. spec.goes_on_from (parse c.args.self.now.parts.depth) (suc n) c.loop-turn.found c.loop-turn.cursor) _ c.loop-turn._turn c.loop-turn-test.false c.loop-turn.invariant in
    first_of (search rules, grind (arith, common_steps))
