use Rattle.std.proofs.Common.{rules, arith}
use Rattle.std.proofs.lemmas.Grind.{common_steps}
use Rattle.hph_fexpr.specs.Lists as spec
use Rattle.hph_fexpr.specs.Parser.{parse}
use Rattle.hph_cursor.proofs.Turns.{one_more, no_more}
use Rattle.hph_enclosed.proofs.grammar.Grammar.arguments.Goals as goal

pub loop-turn-init : goal.loop-turn-init
unfolding spec.arguments
loop-turn-init g c = first_of (search rules, grind (arith, common_steps))

pub returns-then-sees : goal.returns-then-sees
unfolding spec.arguments_from
returns-then-sees g c =
    let e = one_more (λ n. spec.arguments_from (parse c.args.self.now.depth) n c.loop-turn.found c.loop-turn.cursor) _ c.loop-turn._turn c.loop-turn-test.true c.loop-turn.invariant in
    first_of (search rules, grind (arith, common_steps))

pub returns-in_err-argument : goal.returns-in_err-argument
unfolding spec.arguments_from
returns-in_err-argument g c =
    let e = one_more (λ n. spec.arguments_from (parse c.args.self.now.depth) n c.loop-turn.found c.loop-turn.cursor) _ c.loop-turn._turn c.loop-turn-test.true c.loop-turn.invariant in
    first_of (search rules, grind (arith, common_steps))

pub returns-in_err-close-2 : goal.returns-in_err-close-2
unfolding spec.arguments_from
returns-in_err-close-2 g c =
    let e = one_more (λ n. spec.arguments_from (parse c.args.self.now.depth) n c.loop-turn.found c.loop-turn.cursor) _ c.loop-turn._turn c.loop-turn-test.true c.loop-turn.invariant in
    first_of (search rules, grind (arith, common_steps))

pub returns-then-not-sees : goal.returns-then-not-sees
unfolding spec.arguments_from
returns-then-not-sees g c =
    let e = one_more (λ n. spec.arguments_from (parse c.args.self.now.depth) n c.loop-turn.found c.loop-turn.cursor) _ c.loop-turn._turn c.loop-turn-test.true c.loop-turn.invariant in
    first_of (search rules, grind (arith, common_steps))

pub loop-turn-preserved : goal.loop-turn-preserved
unfolding spec.arguments_from
loop-turn-preserved g c =
    let e = one_more (λ n. spec.arguments_from (parse c.args.self.now.depth) n c.loop-turn.found c.loop-turn.cursor) _ c.loop-turn._turn c.loop-turn-test.true c.loop-turn.invariant in
    first_of (search rules, grind (arith, common_steps))

pub returns : goal.returns
unfolding spec.arguments_from
returns g c =
    let e = no_more (λ n. spec.arguments_from (parse c.args.self.now.depth) n c.loop-turn.found c.loop-turn.cursor) _ c.loop-turn._turn c.loop-turn-test.false c.loop-turn.invariant in
    first_of (search rules, grind (arith, common_steps))
