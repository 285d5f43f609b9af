use Rattle.std.proofs.Common.{◌≤◌, drop, map}
use Rattle.hph_php.specs.VarDump.{dump_all}
use Rattle.hph_value.specs.Shown.{value_of}
use Rattle.hph_builtin_dump.specs.Prints.{Prints}
use Rattle.hph_builtin_dump.proofs.print.print_values.Given as goal

abbrev pub invariant-values : goal.invariant-values
invariant-values g l = record {
  prints : Prints (dump_all (map value_of l.values)) (dump_all (map value_of (drop l.value-index l.values))) (g.O.Sink.content l.fn.out) (g.O.Sink.content l.out) l.fn.buffer.items l.buffer.items;
  faults : g.O.Sink.faults l.fn.out ≤ g.O.Sink.faults l.out;
}
