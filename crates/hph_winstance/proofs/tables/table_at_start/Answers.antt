use Rattle.std.proofs.Common.{◌∙◌}
use Rattle.hph_winstance.proofs.Overwrites.{empty_room}
use Rattle.hph_winstance.proofs.tables.table_at_start.Goals as goal

pub put_elements-requires-clause-room : goal.put_elements-requires-clause-room
put_elements-requires-clause-room c = empty_room c.args.m.now.tables c.in-Some.limits.now c.deref_mut.result.now
    c.in-Some.ensures.value (c.deref_mut.ensures.value ∙ c.in_ok-table-in-Some.ensures)
