use Rattle.hph_machine_value.proofs.Firsts.{next_seat}
use Rattle.hph_machine_value.proofs.first.fresh_seats.Goals as goal

pub loop-number-preserved : goal.loop-number-preserved
loop-number-preserved c = next_seat c.loop-number.number c.loop-number.seats.items c.push.new.self.items c.fresh.result c.loop-number.invariant c.fresh.ensures c.in_ok-push.ensures.items
