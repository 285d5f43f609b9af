use Rattle.std.proofs.Common.{rules, arith}
use Rattle.std.proofs.lemmas.Grind.{common_steps}
use Rattle.hph_fexpr.specs.Lists as spec
use Rattle.hph_enclosed.specs.Nests.{passes}
use Rattle.hph_fexpr.specs.Parser.{parse}
use Rattle.hph_cursor.proofs.Turns.{one_more, no_more}
use Rattle.hph_enclosed.proofs.grammar.Grammar.paths.Goals as goal

pub loop-turn-init : goal.loop-turn-init
unfolding spec.paths
loop-turn-init g c = first_of (search rules, grind (arith, common_steps))

pub returns-in_err-tested_path : goal.returns-in_err-tested_path
unfolding spec.paths_from
returns-in_err-tested_path g c =
    let e = one_more (λ n. spec.paths_from (parse c.args.self.now.depth) (passes c.args.test) n c.loop-turn.found c.loop-turn.cursor) _ c.loop-turn._turn c.loop-turn-test.true c.loop-turn.invariant in
    first_of (search rules, grind (arith, common_steps))

pub returns-in_err-close : goal.returns-in_err-close
unfolding spec.paths_from
returns-in_err-close g c =
    let e = one_more (λ n. spec.paths_from (parse c.args.self.now.depth) (passes c.args.test) n c.loop-turn.found c.loop-turn.cursor) _ c.loop-turn._turn c.loop-turn-test.true c.loop-turn.invariant in
    first_of (search rules, grind (arith, common_steps))

pub returns-then-not-sees : goal.returns-then-not-sees
unfolding spec.paths_from
returns-then-not-sees g c =
    let e = one_more (λ n. spec.paths_from (parse c.args.self.now.depth) (passes c.args.test) n c.loop-turn.found c.loop-turn.cursor) _ c.loop-turn._turn c.loop-turn-test.true c.loop-turn.invariant in
    first_of (search rules, grind (arith, common_steps))

pub returns-then-sees : goal.returns-then-sees
unfolding spec.paths_from
returns-then-sees g c =
    let e = one_more (λ n. spec.paths_from (parse c.args.self.now.depth) (passes c.args.test) n c.loop-turn.found c.loop-turn.cursor) _ c.loop-turn._turn c.loop-turn-test.true c.loop-turn.invariant in
    first_of (search rules, grind (arith, common_steps))

pub loop-turn-preserved : goal.loop-turn-preserved
unfolding spec.paths_from
loop-turn-preserved g c =
    let e = one_more (λ n. spec.paths_from (parse c.args.self.now.depth) (passes c.args.test) n c.loop-turn.found c.loop-turn.cursor) _ c.loop-turn._turn c.loop-turn-test.true c.loop-turn.invariant in
    first_of (search rules, grind (arith, common_steps))

pub returns : goal.returns
unfolding spec.paths_from
returns g c =
    let e = no_more (λ n. spec.paths_from (parse c.args.self.now.depth) (passes c.args.test) n c.loop-turn.found c.loop-turn.cursor) _ c.loop-turn._turn c.loop-turn-test.false c.loop-turn.invariant in
    first_of (search rules, grind (arith, common_steps))
