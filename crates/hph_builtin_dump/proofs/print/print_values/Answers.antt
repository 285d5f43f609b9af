use Rattle.std.proofs.Common.{◌+◌, drop, map, arith, subst}
use Rattle.hph_php.specs.VarDump.{Dump, dump, dump_all}
use Rattle.hph_value.specs.Shown.{value_of}
use Rattle.hph_builtin_dump.specs.Dumps.{nothing}
use Rattle.hph_builtin_dump.specs.Prints.{Prints}
use Rattle.hph_builtin_dump.proofs.Pieces.{joins, value_stops, next_value}
use Rattle.hph_builtin_dump.proofs.print.print_values.Goals as goal

pub returns-in-Err-clause-printed : goal.returns-in-Err-clause-printed
returns-in-Err-clause-printed g c =
    let all : Dump = dump_all (map value_of c.args.values.now) in
    let first : Dump = dump 0 (value_of c.value-item.result) in
    let rest : Dump = dump_all (map value_of (drop (c.values.value-index + 1) c.args.values.now)) in
    let P : Dump → Type 0 = λ d. Prints all d (g.O.Sink.content c.args.out.now) (g.O.Sink.content c.values.out) c.args.buffer.now.items c.values.buffer.items in
    value_stops c.in-Err.stop all first rest (g.O.Sink.content c.args.out.now) (g.O.Sink.content c.values.out) (g.O.Sink.content c.print_value.new.out)
    c.args.buffer.now.items c.values.buffer.items c.print_value.new.buffer.items
    (subst P (next_value c.args.values.now c.values.value-index c.value-item.result c.values-test.true c.value-item.is) c.values.invariant.prints)
    c.in-Err.ensures.printed

pub values-preserved : goal.values-preserved
values-preserved g c =
    let all : Dump = dump_all (map value_of c.args.values.now) in
    let first : Dump = dump 0 (value_of c.value-item.result) in
    let rest : Dump = dump_all (map value_of (drop (c.values.value-index + 1) c.args.values.now)) in
    let P : Dump → Type 0 = λ d. Prints all d (g.O.Sink.content c.args.out.now) (g.O.Sink.content c.values.out) c.args.buffer.now.items c.values.buffer.items in
    record {
      prints =
          joins all first nothing rest (g.O.Sink.content c.args.out.now) (g.O.Sink.content c.values.out) (g.O.Sink.content c.print_value.new.out)
          c.args.buffer.now.items c.values.buffer.items c.print_value.new.buffer.items
          (subst P (next_value c.args.values.now c.values.value-index c.value-item.result c.values-test.true c.value-item.is) c.values.invariant.prints)
          c.in-Ok.ensures.printed;
      faults = omega arith;
    }
