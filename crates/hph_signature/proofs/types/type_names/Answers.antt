use Rattle.std.proofs.Common.{rules, arith}
use Rattle.std.proofs.lemmas.Grind.{common_steps}
use Rattle.hph_fstmt.specs.Declarations as declarations
use Rattle.hph_cursor.proofs.Turns.{one_more, no_more}
use Rattle.hph_signature.proofs.types.type_names.Goals as goal

pub returns-in_err-name : goal.returns-in_err-name
unfolding declarations.type_names_from
returns-in_err-name c =
    let e = one_more (λ n. declarations.type_names_from n c.loop-turn.found c.loop-turn.cursor) _ c.loop-turn._turn c.loop-turn-test.true c.loop-turn.invariant in
    first_of (search rules, grind (arith, common_steps))

pub returns-then-not-sees_bar : goal.returns-then-not-sees_bar
unfolding declarations.type_names_from
returns-then-not-sees_bar c =
    let e = one_more (λ n. declarations.type_names_from n c.loop-turn.found c.loop-turn.cursor) _ c.loop-turn._turn c.loop-turn-test.true c.loop-turn.invariant in
    first_of (search rules, grind (arith, common_steps))

pub loop-turn-preserved : goal.loop-turn-preserved
unfolding declarations.type_names_from
loop-turn-preserved c =
    let e = one_more (λ n. declarations.type_names_from n c.loop-turn.found c.loop-turn.cursor) _ c.loop-turn._turn c.loop-turn-test.true c.loop-turn.invariant in
    first_of (search rules, grind (arith, common_steps))

pub returns : goal.returns
unfolding declarations.type_names_from
returns c =
    let e = no_more (λ n. declarations.type_names_from n c.loop-turn.found c.loop-turn.cursor) _ c.loop-turn._turn c.loop-turn-test.false c.loop-turn.invariant in
    first_of (search rules, grind (arith, common_steps))
