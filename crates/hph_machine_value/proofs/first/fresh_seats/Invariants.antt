use Rattle.std.proofs.Common.{◌≡◌}
use Rattle.hph_core.specs.Events.{seats_from}
use Rattle.hph_machine_value.proofs.first.fresh_seats.Given as goal

abbrev pub invariant-loop-number : goal.invariant-loop-number
invariant-loop-number l = l.seats.items ≡ seats_from l.number 0
