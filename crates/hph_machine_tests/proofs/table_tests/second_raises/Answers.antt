use Rattle.hph_machine_tests.proofs.Seen.{raises_second, drops_second}
use Rattle.hph_machine_tests.proofs.table_tests.second_raises.Goals as goal

pub raise-requires-clause-may : goal.raise-requires-clause-may
raise-requires-clause-may c = raises_second c.args.seat.now.1 c.only.result c.requires.view c.only.ensures

pub pending_drop-requires-clause-may : goal.pending_drop-requires-clause-may
pending_drop-requires-clause-may c = drops_second c.args.seat.now.1 c.raise.new.seat.1 c.only.result c.requires.view c.only.ensures c.raise.ensures.view
