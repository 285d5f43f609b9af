use Rattle.std.proofs.Common.{◌≡◌, ℕ, ◌<◌, ◌≤◌, ◌+◌, ◌/◌, length}
use Rattle.hph_table.proofs.Seating.{SetBelow}
use Rattle.hph_table.proofs.making.all_in.Given as goal

abbrev pub invariant-loop-s : goal.invariant-loop-s
invariant-loop-s l = SetBelow l.scopes l.s l.work.items
