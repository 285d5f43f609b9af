use Rattle.hph_wdec.proofs.Runs.{RunsSoFar}
use Rattle.hph_wdec.proofs.locals.runs.Given as goal

abbrev pub invariant-loop : goal.invariant-loop
invariant-loop l = RunsSoFar l.fn.bytes l.locals l.counter l.rest
