use Rattle.std.proofs.Common.{◌≤◌}
use Rattle.hph_php.specs.VarDump.{followed_by}
use Rattle.hph_builtin_dump.specs.Dumps.{left, after, size, work}
use Rattle.hph_builtin_dump.specs.Prints.{Prints}
use Rattle.std.proofs.Common.{◌+◌}
use Rattle.hph_builtin_dump.proofs.print.print_array.Given as goal

abbrev pub invariant-pairs : goal.invariant-pairs
invariant-pairs g l = record {
  prints : Prints (left l.fn.array) (followed_by (left l.top) (after l.frames.items)) (g.O.Sink.content l.fn.out) (g.O.Sink.content l.out) l.fn.buffer.items l.buffer.items;
  faults : g.O.Sink.faults l.fn.out ≤ g.O.Sink.faults l.out;
}

abbrev pub decreases-pairs : goal.decreases-pairs
decreases-pairs g l = size l.top + work l.frames.items
