use Rattle.std.proofs.Common.{◌+◌, List, drop, sym, subst}
use Rattle.std.proofs.Math.ListN.{drop_of_length-le}
use Rattle.hph_walk.specs.Steps.{steps_of, step_of}
use Rattle.hph_walk.specs.declared.step.Step.{Step}
use Rattle.hph_walk_write.specs.declared.level.Level.{Level}
use Rattle.hph_walk_write.specs.Writes.{place_of, IsOpening}
use Rattle.hph_walk_write.proofs.Closing.{next_step, opening_more, opened_all, fails_behind}
use Rattle.hph_walk_write.proofs.opening.open.Goals as goal

pub steps-preserved : goal.steps-preserved
steps-preserved c = λ heap within.
    let next = next_step c.args.steps.now c.steps.step-index c.step-item.result c.steps-test.true c.step-item.is in
    let opening = subst (λ (l : List Step). IsOpening heap within (place_of c.args.place) (steps_of c.args.steps.now) c.steps.levels.items (place_of c.steps.inner) (steps_of l)) next (c.steps.invariant heap within) in
    let rest = drop (c.steps.step-index + 1) c.args.steps.now in
    subst (λ (l : List Level). IsOpening heap within (place_of c.args.place) (steps_of c.args.steps.now) l (place_of c.in-Ok.next) (steps_of rest)) (sym c.in_ok-push_level-in-Ok.ensures)
    (opening_more heap within (place_of c.args.place) (steps_of c.args.steps.now) c.steps.levels.items (place_of c.steps.inner) (step_of c.step-item.result)
    (steps_of rest) c.in-Ok.level (place_of c.in-Ok.next) opening (c.in-Ok.ensures heap within))

pub returns-in-Err : goal.returns-in-Err
returns-in-Err c =
    let next = next_step c.args.steps.now c.steps.step-index c.step-item.result c.steps-test.true c.step-item.is in
    fails_behind c.in-Err.stop (place_of c.args.place) (steps_of c.args.steps.now) c.steps.levels.items (place_of c.steps.inner) (step_of c.step-item.result)
    (steps_of (drop (c.steps.step-index + 1) c.args.steps.now))
    (λ heap within.
    subst (λ (l : List Step). IsOpening heap within (place_of c.args.place) (steps_of c.args.steps.now) c.steps.levels.items (place_of c.steps.inner) (steps_of l)) next
    (c.steps.invariant heap within))
    c.in-Err.ensures

pub returns : goal.returns
returns c = λ heap within.
    let none = drop_of_length-le c.args.steps.now c.steps-test.false in
    opened_all heap within (place_of c.args.place) (steps_of c.args.steps.now) c.steps.levels.items (place_of c.steps.inner)
    (subst (λ (l : List Step). IsOpening heap within (place_of c.args.place) (steps_of c.args.steps.now) c.steps.levels.items (place_of c.steps.inner) (steps_of l)) none (c.steps.invariant heap within))
