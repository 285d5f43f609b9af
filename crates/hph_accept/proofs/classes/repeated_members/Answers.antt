use Rattle.std.proofs.Common.{rules}
use Rattle.hph_accept.proofs.Repeats.{repeating, tracks_more}
use Rattle.hph_accept.proofs.InTurn.{in_turn}
use Rattle.hph_accept.proofs.classes.repeated_members.Goals as goal

pub loop-index-preserved : goal.loop-index-preserved
loop-index-preserved c = (search (rules, in_turn, repeating), tracks_more _ _ c.args.members.now c.loop-index.index c.index-members-index.result c.loop-index-test.true c.index-members-index.is c.repeated_in-met.ensures.names)
