use Rattle.std.proofs.Common.{◌≡◌, ◌≤◌}
use Rattle.std.specs.Prelude.{vec_capacity}
use Rattle.std.specs.Mem.Slots.{slots_items}
use Rattle.hph_table.specs.Seats.{Read}
use Rattle.hph_table.proofs.making.read_cells.Given as goal

abbrev pub invariant-loop-c : goal.invariant-loop-c
invariant-loop-c l = record {
  read : Read (slots_items l.closed.words) l.base l.c l.out.items;
  room : l.cells ≤ vec_capacity l.out;
}
