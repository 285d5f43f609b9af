use Rattle.std.proofs.Common.{arith}
use Rattle.hph_php.specs.VarDump.{Dump, followed_by}
use Rattle.hph_builtin_dump.specs.Dumps.{left, after, GoesOn}
use Rattle.hph_builtin_dump.proofs.Pieces.{puts, writes, advance_stops, flush_stops}
use Rattle.hph_builtin_dump.proofs.print.print_array.Goals as goal

pub returns-in-Err-clause-printed : goal.returns-in-Err-clause-printed
returns-in-Err-clause-printed g c =
    rw c.from.ensures
    (advance_stops c.in-Err.stop (left c.args.array) c.pairs.top c.pairs.frames.items c.advance.new.frames.items (g.O.Sink.content c.args.out.now)
    (g.O.Sink.content c.pairs.out) c.args.buffer.now.items c.pairs.buffer.items c.advance.new.buffer.items c.pairs.invariant.prints c.in-Err.ensures)

pub returns-in-Err-flush_long-clause-printed : goal.returns-in-Err-flush_long-clause-printed
returns-in-Err-flush_long-clause-printed g c =
    let goes : GoesOn c.in-Ok-Some.frame c.pairs.top c.pairs.frames.items c.advance.new.frames.items c.pairs.buffer.items c.advance.new.buffer.items =
    rw c.in-Ok-Some.field-0-is at c.in-Ok-Some.ensures in
    let next : Dump = followed_by (left c.in-Ok-Some.frame) (after c.advance.new.frames.items) in
    flush_stops c.in-Err-flush_long.stop (left c.args.array) next (g.O.Sink.content c.args.out.now) (g.O.Sink.content c.pairs.out)
    (g.O.Sink.content c.flush_long.new.out) c.args.buffer.now.items c.advance.new.buffer.items c.flush_long.new.buffer.items
    (puts (left c.args.array) (followed_by (left c.pairs.top) (after c.pairs.frames.items)) next (g.O.Sink.content c.args.out.now) (g.O.Sink.content c.pairs.out)
    c.args.buffer.now.items c.pairs.buffer.items c.advance.new.buffer.items c.pairs.invariant.prints goes.goes)
    c.in-Err-flush_long.ensures.flushed

pub pairs-preserved : goal.pairs-preserved
pairs-preserved g c =
    let goes : GoesOn c.in-Ok-Some.frame c.pairs.top c.pairs.frames.items c.advance.new.frames.items c.pairs.buffer.items c.advance.new.buffer.items =
    rw c.in-Ok-Some.field-0-is at c.in-Ok-Some.ensures in
    let next : Dump = followed_by (left c.in-Ok-Some.frame) (after c.advance.new.frames.items) in
    record {
      prints =
          writes (left c.args.array) next (g.O.Sink.content c.args.out.now) (g.O.Sink.content c.pairs.out) (g.O.Sink.content c.flush_long.new.out)
          c.args.buffer.now.items c.advance.new.buffer.items c.flush_long.new.buffer.items
          (puts (left c.args.array) (followed_by (left c.pairs.top) (after c.pairs.frames.items)) next (g.O.Sink.content c.args.out.now) (g.O.Sink.content c.pairs.out)
          c.args.buffer.now.items c.pairs.buffer.items c.advance.new.buffer.items c.pairs.invariant.prints goes.goes)
          c.in-Ok.ensures.flushed;
      faults = omega arith;
    }
