use Rattle.hph_wrun.proofs.Counts.{block_counted, loop_counted, if_counted}
use Rattle.hph_wrun.proofs.counting.count_one.Goals as goal

pub returns-in-Block : goal.returns-in-Block
returns-in-Block c = block_counted c.args.i.now c.args.waiting.now c.count_block.new.waiting _ _ _ c.in-Block.is c.count_block.ensures

pub returns-in-Loop : goal.returns-in-Loop
returns-in-Loop c = loop_counted c.args.i.now c.args.waiting.now c.count_block-in-Loop.new.waiting _ _ _ c.in-Loop.is c.count_block-in-Loop.ensures

pub returns-in-If : goal.returns-in-If
returns-in-If c = if_counted c.args.i.now c.args.waiting.now c.count_if.new.waiting _ _ _ _ c.in-If.is c.count_if.ensures
