use Rattle.std.proofs.Common.{rules, arith}
use Rattle.std.proofs.lemmas.Grind.{common_steps}
use Rattle.hph_fstmt.specs.Repeats as repeats
use Rattle.hph_cursor.proofs.Turns.{one_more, no_more}
use Rattle.hph_repeats.proofs.lists.many.Goals as goal

pub returns-then-at_end : goal.returns-then-at_end
unfolding repeats.many_from
returns-then-at_end g c =
    let e = one_more (λ n. repeats.many_from g.R.Ends.ends (g.R.Rule.grammar c.args.rule.now) n c.loop-turn.found c.loop-turn.cursor) _ c.loop-turn._turn c.loop-turn-test.true c.loop-turn.invariant in
    first_of (search rules, grind (arith, common_steps))

pub returns-in_err-read : goal.returns-in_err-read
unfolding repeats.many_from
returns-in_err-read g c =
    let e = one_more (λ n. repeats.many_from g.R.Ends.ends (g.R.Rule.grammar c.args.rule.now) n c.loop-turn.found c.loop-turn.cursor) _ c.loop-turn._turn c.loop-turn-test.true c.loop-turn.invariant in
    first_of (search rules, grind (arith, common_steps))

pub loop-turn-preserved : goal.loop-turn-preserved
unfolding repeats.many_from
loop-turn-preserved g c =
    let e = one_more (λ n. repeats.many_from g.R.Ends.ends (g.R.Rule.grammar c.args.rule.now) n c.loop-turn.found c.loop-turn.cursor) _ c.loop-turn._turn c.loop-turn-test.true c.loop-turn.invariant in
    first_of (search rules, grind (arith, common_steps))

pub returns-then-not-at_end : goal.returns-then-not-at_end
unfolding repeats.many_from
returns-then-not-at_end g c =
    let e = no_more (λ n. repeats.many_from g.R.Ends.ends (g.R.Rule.grammar c.args.rule.now) n c.loop-turn.found c.loop-turn.cursor) _ c.loop-turn._turn c.loop-turn-test.false c.loop-turn.invariant in
    first_of (search rules, grind (arith, common_steps))

pub returns : goal.returns
unfolding repeats.many_from
returns g c =
    let e = no_more (λ n. repeats.many_from g.R.Ends.ends (g.R.Rule.grammar c.args.rule.now) n c.loop-turn.found c.loop-turn.cursor) _ c.loop-turn._turn c.loop-turn-test.false c.loop-turn.invariant in
    first_of (search rules, grind (arith, common_steps))
