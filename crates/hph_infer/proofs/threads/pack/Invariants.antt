use Rattle.std.proofs.Common.{◌≡◌, ◌++◌, map, vec_len}
use Rattle.hph_infer.specs.Team.{seat_of}
use Rattle.hph_infer.proofs.threads.pack.Given as goal

abbrev pub invariant-loop-team : goal.invariant-loop-team
invariant-loop-team g l = map seat_of l.team.items ++ l.seats.items ≡ l.fn.seats.items

abbrev pub decreases-loop-team : goal.decreases-loop-team
decreases-loop-team g l = vec_len l.seats
