use Rattle.std.proofs.Common.{◌≡◌, ℕ, ◌<◌, ◌≤◌, ◌+◌, arith}
use Rattle.std.specs.Mem.Slots.{slots_items}
use Rattle.std.specs.Prelude.{vec_capacity}
use Rattle.hph_table.proofs.Ending.{read_more}
use Rattle.hph_table.proofs.making.read_cells.Goals as goal

pub loop-c-preserved : goal.loop-c-preserved
loop-c-preserved c = record {
  read = read_more (slots_items c.args.closed.now.words) c.args.base c.loop-c.c c.word.result c.loop-c.out.items c.push_reserved.new.self.items c.type_of.result c.loop-c.invariant.read c.word.ensures c.type_of.ensures c.push_reserved.ensures.items;
  room = (let a = c.push_reserved.ensures.capacity in let b = c.loop-c.invariant.room in omega arith);
}
