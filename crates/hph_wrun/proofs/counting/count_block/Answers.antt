use Rattle.hph_wrun.proofs.Counts.{block_waits}
use Rattle.hph_wrun.proofs.counting.count_block.Goals as goal

pub returns : goal.returns
returns c = block_waits _ _ _ _ c.as_slice.ensures c.in_ok-push.ensures.ok
