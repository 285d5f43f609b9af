use Rattle.std.proofs.Common.{vec_len}
use Rattle.hph_table.specs.Seats.{Joined}
use Rattle.hph_table.proofs.Shared.gather.Given as goal

abbrev pub invariant-loop-seat : goal.invariant-loop-seat
invariant-loop-seat g l = Joined l.self.0 l.fn.seats.items l.seats.items l.main

abbrev pub decreases-loop-seat : goal.decreases-loop-seat
decreases-loop-seat g l = vec_len l.seats
