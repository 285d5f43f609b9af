use Rattle.std.proofs.Common.{◌≡◌, ℕ, ◌<◌, ◌≤◌, ◌+◌, ◌/◌, length, arith}
use Rattle.hph_table.proofs.Seating.{SetBelow, set_more}
use Rattle.hph_table.proofs.making.all_in.Goals as goal

pub loop-s-preserved : goal.loop-s-preserved
loop-s-preserved c = set_more c.args.scopes c.loop-s.s c.loop-s.work.items c.index_mut.result.now (omega arith) c.loop-s.invariant c.index_mut.ensures.value
