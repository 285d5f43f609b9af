use Rattle.std.proofs.Common.{sym, subst}
use Rattle.hph_wasm.specs.Unsupported.{IsShallowExpression}
use Rattle.hph_wread.specs.Nesting.{Reached}
use Rattle.hph_wread.specs.Reading.{Took}
use Rattle.hph_wread.specs.declared.nest.Step.TheVariants.{Ended}
use Rattle.hph_wread.proofs.Combinators.{handed_on}
use Rattle.hph_wread.proofs.blocks.expression.Goals as goal

pub returns-in_err-step-clause-stopped : goal.returns-in_err-step-clause-stopped
returns-in_err-step-clause-stopped c =
    let e = c.in_err-step.field-0.0 in
    handed_on _ c.from_residual.result e c.from_residual.ensures.1 (c.in_err-step.ensures.stopped c.args.bytes.now c.instructions.invariant)

pub returns-in-Ended-clause-fit : goal.returns-in-Ended-clause-fit
returns-in-Ended-clause-fit c =
    let read = c.in_ok-step.ensures.read c.args.bytes.now c.instructions.invariant in
    let ended : Took (Reached Ended c.advance.new.nest) c.args.bytes.now c.in_ok-step.after.now =
    subst (λ step. Took (Reached step c.advance.new.nest) c.args.bytes.now c.in_ok-step.after.now) c.in-Ended.is read in
    subst IsShallowExpression (sym c.into_body.ensures) ended.spelled.1
