use Rattle.std.proofs.Common.{subst, Ok}
use Rattle.hph_value.specs.Shown.{value_of}
use Rattle.hph_walk.specs.Steps.{step_of}
use Rattle.hph_walk_write.specs.Unsets.{Looks}
use Rattle.hph_walk_write.proofs.Elements.{proceeds}
use Rattle.hph_walk_write.proofs.unsetting.proceed.Goals as goal

pub returns-in_ok-level-in-Ok-Some : goal.returns-in_ok-level-in-Ok-Some
returns-in_ok-level-in-Ok-Some c = λ heap within.
    proceeds heap within (value_of c.args.value) (step_of c.args.step.now) c.in-Ok-Some.key c.in_ok-level-in-Ok-Some.level
    (value_of c.in_ok-level-in-Ok-Some.inner)
    (subst (λ o. Looks (Ok o) (value_of c.args.value) (step_of c.args.step.now)) c.in-Ok-Some.field-0-is c.in-Ok-Some.ensures)
    c.in_ok-level-in-Ok-Some.ensures
