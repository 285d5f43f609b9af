use Rattle.std.proofs.Common.{sym, arith}
use Rattle.hph_builtin_dump.proofs.Steps.{place_within, ends, value_stops, value_passes, value_enters}
use Rattle.hph_builtin_dump.proofs.frame.advance.Goals as goal

pub returns-in_default : goal.returns-in_default
returns-in_default c =
    ends c.pop.result c.args.top c.args.frames.now.items c.pop.new.self.items c.args.buffer.now.items c.put_line.new.buffer.items
    (sym c.in_default.ensures) c.in_ok-put_line.ensures c.pop.ensures.items
    (λ e. omega (arith, (rw e at c.pop.ensures.cases).0, c.args.frames.now.ok.0))

pub behind-requires : goal.behind-requires
behind-requires c = place_within c.args.top.pairs.now.pairs c.args.top.at (c.in-Some.key.now, c.in-Some.value.now) (sym c.in-Some.ensures)

pub behind-requires-in-Ok-Some : goal.behind-requires-in-Ok-Some
behind-requires-in-Ok-Some c = place_within c.args.top.pairs.now.pairs c.args.top.at (c.in-Some.key.now, c.in-Some.value.now) (sym c.in-Some.ensures)

pub returns-in-Err : goal.returns-in-Err
returns-in-Err c =
    value_stops c.in-Err.stop c.args.top c.args.frames.now.items c.in-Some-checked_add.depth c.in-Some.key.now c.in-Some.value.now
    c.args.buffer.now.items c.put_key.new.buffer.items c.enter.new.buffer.items
    (record { there = sym c.in-Some.ensures; deeper = c.in-Some-checked_add.ensures.1 }) c.in_ok-put_key.ensures c.in-Err.ensures

pub returns-in-Ok-None : goal.returns-in-Ok-None
returns-in-Ok-None c =
    value_passes c.behind.result c.args.top c.args.frames.now.items c.in-Some-checked_add.depth c.in-Some.key.now c.in-Some.value.now
    c.args.buffer.now.items c.put_key.new.buffer.items c.enter.new.buffer.items
    (record { there = sym c.in-Some.ensures; deeper = c.in-Some-checked_add.ensures.1 }) c.in_ok-put_key.ensures (rw c.in-Ok-None.field-0-is at c.in-Ok-None.ensures)
    (record { pairs = c.behind.ensures.pairs; depth = c.behind.ensures.depth; at = c.behind.ensures.at })

pub returns-in-Ok : goal.returns-in-Ok
returns-in-Ok c =
    value_enters c.in-Ok-Some.inner c.behind-in-Ok-Some.result c.args.top c.args.frames.now.items c.push.new.self.items c.in-Some-checked_add.depth c.in-Some.key.now c.in-Some.value.now
    c.args.buffer.now.items c.put_key.new.buffer.items c.enter.new.buffer.items
    (record { there = sym c.in-Some.ensures; deeper = c.in-Some-checked_add.ensures.1 }) c.in_ok-put_key.ensures (rw c.in-Ok-Some.field-0-is at c.in-Ok-Some.ensures)
    (record { pairs = c.behind-in-Ok-Some.ensures.pairs; depth = c.behind-in-Ok-Some.ensures.depth; at = c.behind-in-Ok-Some.ensures.at })
    c.in-Ok.ensures.items
