use Rattle.std.proofs.Common.{◌∙◌}
use Rattle.hph_winstance.proofs.Overwrites.{zeros_room}
use Rattle.hph_winstance.proofs.tables.memory_at_start.Goals as goal

pub put_segments-requires-clause-room : goal.put_segments-requires-clause-room
put_segments-requires-clause-room c = zeros_room c.args.m.now.memories c.in-Some.limits.now c.deref_mut.result.now
    c.in-Some.ensures.value (c.deref_mut.ensures.value ∙ c.in_ok-memory-in-Some.ensures)
