use Rattle.std.proofs.Common.{arith, subst}
use Rattle.hph_wasm.specs.ModuleGrammar.{LocalRun}
use Rattle.hph_wasm.specs.Unsupported.{Any, StopsRun}
use Rattle.hph_wread.specs.Reading.{Fails}
use Rattle.hph_wread.proofs.Combinators.{handed_on}
use Rattle.hph_wdec.proofs.Runs.{runs_fail, one_more_run}
use Rattle.hph_wdec.proofs.locals.runs.Goals as goal

pub returns-in_err-number-clause-stopped : goal.returns-in_err-number-clause-stopped
returns-in_err-number-clause-stopped c =
    let e = c.in_err-number.field-0.0 in
    handed_on _ c.from_residual.result e c.from_residual.ensures.1
    (runs_fail (c.types_are_read_in_one_way.ensures.unsigned 32) c.sections_are_read_in_one_way.ensures.local_runs c.parts_stop_in_one_place.ensures.value_types
    c.loop.locals c.loop.counter c.args.count c.loop.invariant (omega arith) e
    (subst (λ n. Fails (Any LocalRun) (StopsRun n) c.loop.rest.now e) c.len.ensures c.in_err-number.ensures.stopped))

pub loop-preserved : goal.loop-preserved
loop-preserved c =
    one_more_run c.loop.locals c.push_run.new.self c.loop.counter c.in_ok-number.number c.in_ok-number.ty c.loop.invariant c.in_ok-number.ensures.read
    (omega (arith, c.in_ok-number.ensures.few, c.len.ensures)) c.in_ok-push_run.ensures.pushed
