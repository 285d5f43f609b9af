use Rattle.std.proofs.Common.{arith}
use Rattle.hph_machine_value.proofs.Firsts.{has_more}
use Rattle.hph_machine_value.proofs.first.full_set.Goals as goal

pub loop-s-preserved : goal.loop-s-preserved
loop-s-preserved c = has_more c.args.scopes c.loop-s.s c.loop-s.work.items c.index_mut.result.now (omega arith) c.loop-s.invariant c.index_mut.ensures.value
