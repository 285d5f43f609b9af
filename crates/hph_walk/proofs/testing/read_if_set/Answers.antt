use Rattle.std.proofs.Common.{◌∙◌, ◌+◌, List, drop, ap, sym}
use Rattle.hph_php.specs.Paths.{try_path}
use Rattle.hph_walk.specs.declared.step.Step.{Step}
use Rattle.hph_walk.specs.Seen.{seen_value}
use Rattle.hph_walk.specs.Steps.{steps_of}
use Rattle.hph_walk.proofs.Walks.{tried_behind, next_step}
use Rattle.hph_walk.proofs.testing.read_if_set.Goals as goal

pub steps-preserved : goal.steps-preserved
steps-preserved c = λ heap within.
    c.steps.invariant heap within
    ∙ (ap (λ (r : List Step). try_path heap within (seen_value c.steps.seen) (steps_of r)) (next_step c.args.steps.now c.steps.step-index c.step-item.result c.steps-test.true c.step-item.is)
    ∙ (tried_behind heap within (seen_value c.steps.seen) c.step-item.result (drop (c.steps.step-index + 1) c.args.steps.now)
    ∙ ap (λ v. try_path heap within v (steps_of (drop (c.steps.step-index + 1) c.args.steps.now))) (sym c.in_ok-seen.ensures)))
