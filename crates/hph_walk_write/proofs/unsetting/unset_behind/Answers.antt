use Rattle.std.proofs.Common.{◌∙◌, ◌+◌, List, drop, Some, Ok, Err, ap, sym, subst}
use Rattle.std.proofs.Math.ListN.{drop_of_length-le}
use Rattle.hph_value.specs.Shown.{value_of}
use Rattle.hph_walk.specs.declared.step.Step.{Step}
use Rattle.hph_walk.specs.Steps.{step_of, steps_of}
use Rattle.hph_walk_write.specs.declared.level.Level.{Level}
use Rattle.hph_walk_write.specs.Levels.{closed}
use Rattle.hph_walk_write.specs.Unsets.{IsUnsetting, Enters, place_left}
use Rattle.hph_walk_write.proofs.Closing.{next_step}
use Rattle.hph_walk_write.proofs.Elements.{unsetting_more, unset_left, ends_behind, same_end}
use Rattle.hph_walk_write.proofs.unsetting.unset_behind.Goals as goal

pub returns-in-Ok-Left : goal.returns-in-Ok-Left
returns-in-Ok-Left c = λ heap within.
    let next = next_step c.args.front.now c.steps.step-index c.step-item.result c.steps-test.true c.step-item.is in
    let rest = drop (c.steps.step-index + 1) c.args.front.now in
    unset_left heap within (value_of c.args.value) (steps_of c.args.front.now) (step_of c.args.last.now) c.steps.levels.items (value_of c.steps.inner)
    (step_of c.step-item.result) (steps_of rest) (value_of c.in-Ok-Left.value)
    (subst (λ (l : List Step). IsUnsetting heap within (value_of c.args.value) (steps_of c.args.front.now) (step_of c.args.last.now) c.steps.levels.items (value_of c.steps.inner) (steps_of l))
    next (c.steps.invariant heap within))
    (subst (λ p. Enters (Ok p) (value_of c.steps.inner) (step_of c.step-item.result)) c.in-Ok-Left.field-0-is c.in-Ok-Left.ensures heap within)
    ∙ ap (λ v. Ok (place_left heap (Some v)))
    (ap (λ (l : List Level). closed l (value_of c.in-Ok-Left.value)) (sym c.of.ensures) ∙ sym c.in_ok-close-in-Ok-Left.ensures)

pub steps-preserved : goal.steps-preserved
steps-preserved c = λ heap within.
    let next = next_step c.args.front.now c.steps.step-index c.step-item.result c.steps-test.true c.step-item.is in
    let rest = drop (c.steps.step-index + 1) c.args.front.now in
    subst (λ (l : List Level). IsUnsetting heap within (value_of c.args.value) (steps_of c.args.front.now) (step_of c.args.last.now) l (value_of c.in-Ok-In.next) (steps_of rest))
    (sym c.in_ok-push_level-in-Ok-In.ensures)
    (unsetting_more heap within (value_of c.args.value) (steps_of c.args.front.now) (step_of c.args.last.now) c.steps.levels.items (value_of c.steps.inner)
    (step_of c.step-item.result) (steps_of rest) c.in-Ok-In.level (value_of c.in-Ok-In.next)
    (subst (λ (l : List Step). IsUnsetting heap within (value_of c.args.value) (steps_of c.args.front.now) (step_of c.args.last.now) c.steps.levels.items (value_of c.steps.inner) (steps_of l))
    next (c.steps.invariant heap within))
    (subst (λ p. Enters (Ok p) (value_of c.steps.inner) (step_of c.step-item.result)) c.in-Ok-In.field-0-is c.in-Ok-In.ensures heap within))

pub returns-in_ok-close-in-Ok : goal.returns-in_ok-close-in-Ok
returns-in_ok-close-in-Ok c = λ heap within.
    let none = drop_of_length-le c.args.front.now c.steps-test.false in
    ends_behind (Ok c.in-Ok.value) (value_of c.args.value) (steps_of c.args.front.now) (step_of c.args.last.now) c.steps.levels.items (value_of c.steps.inner)
    (λ heap within.
    subst (λ (l : List Step). IsUnsetting heap within (value_of c.args.value) (steps_of c.args.front.now) (step_of c.args.last.now) c.steps.levels.items (value_of c.steps.inner) (steps_of l))
    none (c.steps.invariant heap within))
    c.in-Ok.ensures heap within
    ∙ ap (λ v. Ok (place_left heap (Some v)))
    (ap (λ (l : List Level). closed l (value_of c.in-Ok.value)) (sym c.of-in-Ok.ensures) ∙ sym c.in_ok-close-in-Ok.ensures)

pub returns-in-Err-without : goal.returns-in-Err-without
returns-in-Err-without c = λ heap within.
    let none = drop_of_length-le c.args.front.now c.steps-test.false in
    same_end (λ left. place_left heap (Some (closed c.steps.levels.items (value_of left)))) (λ left. place_left heap (Some (value_of left)))
    c.in-Err-without.stop _
    (ends_behind (Err c.in-Err-without.stop) (value_of c.args.value) (steps_of c.args.front.now) (step_of c.args.last.now) c.steps.levels.items (value_of c.steps.inner)
    (λ heap within.
    subst (λ (l : List Step). IsUnsetting heap within (value_of c.args.value) (steps_of c.args.front.now) (step_of c.args.last.now) c.steps.levels.items (value_of c.steps.inner) (steps_of l))
    none (c.steps.invariant heap within))
    c.in-Err-without.ensures heap within)
