use Rattle.std.proofs.Common.{◌≡◌, ◌∙◌, ◌+◌, List, ap, subst, arith}
use Rattle.std.proofs.lemmas.Result.{on_ok_weaker}
use Rattle.hph_wasm.specs.LocalRuns.{EndsIn, end_of, expanded}
use Rattle.hph_wasm.specs.declared.locals.RunOfLocals.{RunOfLocals}
use Rattle.hph_wasm.proofs.LocalLaws.{added, lengthened, lengthened_rises}
use Rattle.hph_wasm.proofs.locals.push.Goals as goal

pub returns-then-ends_in-clause-rising : goal.returns-then-ends_in-clause-rising
returns-then-ends_in-clause-rising c =
    let runs : List RunOfLocals = c.args.runs.now in
    let run : RunOfLocals = record { ty = c.args.ty; end = c.end_of.result + c.args.count } in
    let ends : run.end ≡ end_of 0 runs + c.args.count = omega (arith, c.end_of.ensures, ap (end_of 0) c.as_slice.ensures) in
    let last : EndsIn run.ty runs = subst (EndsIn run.ty) c.as_slice-2.ensures (c.ends_in.ensures c.if-ends_in.true) in
    rw (c.set.ensures, c.len.ensures) (lengthened_rises runs run c.args.count last c.requires.rising ends)

pub returns-then-ends_in-clause-pushed : goal.returns-then-ends_in-clause-pushed
returns-then-ends_in-clause-pushed c =
    let runs : List RunOfLocals = c.args.runs.now in
    let run : RunOfLocals = record { ty = c.args.ty; end = c.end_of.result + c.args.count } in
    let ends : run.end ≡ end_of 0 runs + c.args.count = omega (arith, c.end_of.ensures, ap (end_of 0) c.as_slice.ensures) in
    let last : EndsIn run.ty runs = subst (EndsIn run.ty) c.as_slice-2.ensures (c.ends_in.ensures c.if-ends_in.true) in
    rw (c.set.ensures, c.len.ensures) (lengthened runs run c.args.count last c.requires.rising ends)

pub returns-else-ends_in-clause-pushed : goal.returns-else-ends_in-clause-pushed
returns-else-ends_in-clause-pushed c =
    let runs : List RunOfLocals = c.args.runs.now in
    let run : RunOfLocals = record { ty = c.args.ty; end = c.end_of.result + c.args.count } in
    let ends : run.end ≡ end_of 0 runs + c.args.count = omega (arith, c.end_of.ensures, ap (end_of 0) c.as_slice.ensures) in
    on_ok_weaker c.push.result (λ is. ap expanded is ∙ added runs run c.args.count ends) c.push.ensures.ok
