use Rattle.std.proofs.Common.{◌/◌, ◌%◌, ◌+◌, ◌*◌, ◌-◌}
use Rattle.std.specs.Int.{bit_at, bit_not, trailing_zeros}
use mir.Syntax.{w64}
use Rattle.hph_table.specs.Tells.{Peeks, Takes, Marks, PutsBack, Tries, Releases, Reads, Raises, Adds, Pays, Finishes, Waits}
use Rattle.hph_table.proofs.Codes as codes
use Rattle.hph_core.specs.Events.{of_hand}
use Rattle.hph_table.proofs.Shared.take.Given as goal

abbrev pub ghosts-fetch_and : goal.ghosts-fetch_and
ghosts-fetch_and g a = record { then = Takes (64 * a.word + trailing_zeros w64 (bit_not w64 a.k)) }
