use Rattle.std.proofs.Common.{arith}
use Rattle.hph_wenc.proofs.Runs.{length-runs_of}
use Rattle.hph_wenc.proofs.code.code.Goals as goal

pub put_vector-requires-clause-few : goal.put_vector-requires-clause-few
put_vector-requires-clause-few c = rw (c.deref.ensures.value, c.in_ok-runs.ensures) (omega (arith, length-runs_of c.args.func.now.locals, c.requires.few_locals))
