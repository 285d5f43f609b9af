use Rattle.std.proofs.Common.{rules, arith}
use Rattle.std.proofs.lemmas.Grind.{common_steps}
use Rattle.hph_fexpr.specs.Climb as spec
use Rattle.hph_fexpr.specs.Parser.{parse}
use Rattle.hph_cursor.proofs.Turns.{one_more, no_more}
use Rattle.hph_pexpr.proofs.operators.Operators.operands.Goals as goal

pub returns-in_default : goal.returns-in_default
unfolding spec.operands_from
returns-in_default g c =
    let e = one_more (λ n. spec.operands_from (parse c.args.self.now.below.parts.depth) c.args.level n c.loop-turn.found c.loop-turn.cursor) _ c.loop-turn._turn c.loop-turn-test.true c.loop-turn.invariant in
    first_of (search rules, grind (arith, common_steps))

pub returns-in_err-operand : goal.returns-in_err-operand
unfolding spec.operands_from
returns-in_err-operand g c =
    let e = one_more (λ n. spec.operands_from (parse c.args.self.now.below.parts.depth) c.args.level n c.loop-turn.found c.loop-turn.cursor) _ c.loop-turn._turn c.loop-turn-test.true c.loop-turn.invariant in
    first_of (search rules, grind (arith, common_steps))

pub loop-turn-preserved : goal.loop-turn-preserved
unfolding spec.operands_from
loop-turn-preserved g c =
    let e = one_more (λ n. spec.operands_from (parse c.args.self.now.below.parts.depth) c.args.level n c.loop-turn.found c.loop-turn.cursor) _ c.loop-turn._turn c.loop-turn-test.true c.loop-turn.invariant in
    first_of (search rules, grind (arith, common_steps))

pub returns : goal.returns
unfolding spec.operands_from
returns g c =
    let e = no_more (λ n. spec.operands_from (parse c.args.self.now.below.parts.depth) c.args.level n c.loop-turn.found c.loop-turn.cursor) _ c.loop-turn._turn c.loop-turn-test.false c.loop-turn.invariant in
    first_of (search rules, grind (arith, common_steps))
