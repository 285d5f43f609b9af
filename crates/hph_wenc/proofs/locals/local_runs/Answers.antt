use Rattle.std.proofs.Common.{◌∙◌, ◌+◌, ◌<◌, ◌^◌, ◌++◌, length, arith, ap, sym, length-append}
use Rattle.std.specs.Prelude.{replicate}
use Rattle.std.proofs.lemmas.List.{length-replicate}
use Rattle.hph_wasm.specs.ModuleGrammar.{locals_of}
use Rattle.hph_wenc.specs.Runs.{with_locals}
use Rattle.hph_wenc.proofs.Runs.{counts_small, last_stands, runs_of-replicate}
use Rattle.hph_wenc.proofs.locals.local_runs.Goals as goal

pub put_run-requires : goal.put_run-requires
put_run-requires c =
    let before = c.loop-count.invariant in
    let count = c.in-Some.count in
    let more = replicate count c.in-Some.ty in
    let whole = last_stands c.loop-count.kept.items c.pop.new.self.items (count, c.in-Some.ty) before.done c.args.locals.now c.in-Some.ensures.items before.whole in
    let few : length before.done + count < 2 ^ 32 =
    omega (arith, ap length whole, length-append (locals_of c.pop.new.self.items) (more ++ before.done), length-append more before.done, length-replicate count c.in-Some.ty, c.requires) in
    counts_small count before.done c.loop-count.runs.items before.runs few

pub loop-count-preserved-in-Continue-branch-2 : goal.loop-count-preserved-in-Continue-branch-2
loop-count-preserved-in-Continue-branch-2 c =
    let before = c.loop-count.invariant in
    let count = c.in-Some.count in
    record {
      done = replicate count c.in-Some.ty ++ before.done;
      whole = last_stands c.loop-count.kept.items c.pop.new.self.items (count, c.in-Some.ty) before.done c.args.locals.now c.in-Some.ensures.items before.whole;
      runs = c.in_ok-put_run.ensures ∙ ap (with_locals count c.in-Some.ty) before.runs ∙ sym (runs_of-replicate count c.in-Some.ty before.done (omega (arith, c.if-count-gt0.true)));
    }
