use Rattle.std.proofs.Common.{rules, arith}
use Rattle.std.proofs.lemmas.Grind.{common_steps}
use Rattle.hph_fexpr.specs.Arrays as spec
use Rattle.hph_fexpr.specs.Parser.{parse}
use Rattle.hph_cursor.proofs.Turns.{one_more, no_more}
use Rattle.hph_enclosed.proofs.grammar.Grammar.elements.Goals as goal

pub loop-turn-init : goal.loop-turn-init
unfolding spec.elements
loop-turn-init g c = first_of (search rules, grind (arith, common_steps))

pub returns-then-sees : goal.returns-then-sees
unfolding spec.elements_from
returns-then-sees g c =
    let e = one_more (λ n. spec.elements_from (parse c.args.self.now.depth) c.args.closing n c.loop-turn.items c.loop-turn.targets c.loop-turn.cursor) _ c.loop-turn._turn c.loop-turn-test.true c.loop-turn.invariant in
    first_of (search rules, grind (arith, common_steps))

pub returns-in_err-item : goal.returns-in_err-item
unfolding spec.elements_from
returns-in_err-item g c =
    let e = one_more (λ n. spec.elements_from (parse c.args.self.now.depth) c.args.closing n c.loop-turn.items c.loop-turn.targets c.loop-turn.cursor) _ c.loop-turn._turn c.loop-turn-test.true c.loop-turn.invariant in
    first_of (search rules, grind (arith, common_steps))

pub returns-in_err-expect : goal.returns-in_err-expect
unfolding spec.elements_from
returns-in_err-expect g c =
    let e = one_more (λ n. spec.elements_from (parse c.args.self.now.depth) c.args.closing n c.loop-turn.items c.loop-turn.targets c.loop-turn.cursor) _ c.loop-turn._turn c.loop-turn-test.true c.loop-turn.invariant in
    first_of (search rules, grind (arith, common_steps))

pub returns-then-not-sees : goal.returns-then-not-sees
unfolding spec.elements_from
returns-then-not-sees g c =
    let e = one_more (λ n. spec.elements_from (parse c.args.self.now.depth) c.args.closing n c.loop-turn.items c.loop-turn.targets c.loop-turn.cursor) _ c.loop-turn._turn c.loop-turn-test.true c.loop-turn.invariant in
    first_of (search rules, grind (arith, common_steps))

pub loop-turn-preserved : goal.loop-turn-preserved
unfolding spec.elements_from
loop-turn-preserved g c =
    let e = one_more (λ n. spec.elements_from (parse c.args.self.now.depth) c.args.closing n c.loop-turn.items c.loop-turn.targets c.loop-turn.cursor) _ c.loop-turn._turn c.loop-turn-test.true c.loop-turn.invariant in
    first_of (search rules, grind (arith, common_steps))

pub returns : goal.returns
unfolding spec.elements_from
returns g c =
    let e = no_more (λ n. spec.elements_from (parse c.args.self.now.depth) c.args.closing n c.loop-turn.items c.loop-turn.targets c.loop-turn.cursor) _ c.loop-turn._turn c.loop-turn-test.false c.loop-turn.invariant in
    first_of (search rules, grind (arith, common_steps))
