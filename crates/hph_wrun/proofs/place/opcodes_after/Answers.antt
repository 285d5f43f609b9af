use Rattle.hph_wrun.proofs.Outside.{after_first}
use Rattle.hph_wrun.proofs.place.opcodes_after.Goals as goal

pub returns-in-If : goal.returns-in-If
returns-in-If c = after_first c.opcodes_after_first.result c.args.side c.args.block.now _ _ _ c.in-Then.is c.in-If.is c.opcodes_after_first.ensures
