use Rattle.std.proofs.Common.{length, refl, ap, arith}
use Rattle.hph_turns.proofs.Rounds.{nothing_typing}
use Rattle.hph_infer.proofs.turns.work.Goals as goal

pub loop-turn-init : goal.loop-turn-init
loop-turn-init g c = record {
  table = c.requires.table;
  idle = c.requires.idle;
  number = refl;
  typing = nothing_typing (g.S.System.shape c.args.system.now) c.loop-c._c c.loop-c.known.items (let t = c.cells-c-end.ensures in omega arith) c.loop-c.invariant;
  turns = ap length c.new-turns.ensures.items;
}
