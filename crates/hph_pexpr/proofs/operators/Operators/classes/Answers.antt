use Rattle.std.proofs.Common.{rules, arith, sym, ap, ◌∙◌, ◌++◌, ◌∷◌, []}
use Rattle.std.proofs.lemmas.Grind.{common_steps}
use Rattle.hph_fexpr.specs.Climb as spec
use Rattle.hph_fexpr.specs.Parser.{parse}
use Rattle.hph_pexpr.proofs.Climbs.{class_turn}
use Rattle.hph_cursor.proofs.Turns.{one_more, no_more}
use Rattle.hph_pexpr.proofs.operators.Operators.classes.Goals as goal

pub returns-then-not-sees_instance_of : goal.returns-then-not-sees_instance_of
unfolding spec.classes_from
returns-then-not-sees_instance_of g c =
    let e = one_more (λ n. spec.classes_from (parse c.args.self.now.below.parts.depth) n c.loop-turn.found c.loop-turn.cursor) _ c.loop-turn._turn c.loop-turn-test.true c.loop-turn.invariant in
    first_of (search rules, grind (arith, common_steps))

pub returns-in_err-class_reference : goal.returns-in_err-class_reference
unfolding spec.classes_from
returns-in_err-class_reference g c =
    let e = one_more (λ n. spec.classes_from (parse c.args.self.now.below.parts.depth) n c.loop-turn.found c.loop-turn.cursor) _ c.loop-turn._turn c.loop-turn-test.true c.loop-turn.invariant in
    first_of (search rules, grind (arith, common_steps))

pub loop-turn-preserved : goal.loop-turn-preserved
loop-turn-preserved g c =
    one_more (λ n. spec.classes_from (parse c.args.self.now.below.parts.depth) n c.loop-turn.found c.loop-turn.cursor) _ c.loop-turn._turn c.loop-turn-test.true c.loop-turn.invariant
    ∙ class_turn (parse c.args.self.now.below.parts.depth) _ _ _ (sym c.if-not-sees_instance_of.ensures) c.in_ok-take.ensures c.in_ok-class_reference.ensures
    (c.in_ok-push.ensures.ok ∙ ap (λ class. c.loop-turn.found ++ class ∷ []) c.into_inner.ensures)

pub returns : goal.returns
unfolding spec.classes_from
returns g c =
    let e = no_more (λ n. spec.classes_from (parse c.args.self.now.below.parts.depth) n c.loop-turn.found c.loop-turn.cursor) _ c.loop-turn._turn c.loop-turn-test.false c.loop-turn.invariant in
    first_of (search rules, grind (arith, common_steps))
