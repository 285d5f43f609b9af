use Rattle.std.proofs.Common.{◌/◌, ◌%◌, ◌+◌, ◌*◌, ◌-◌}
use Rattle.std.specs.Int.{bit_at, bit_not, trailing_zeros}
use mir.Syntax.{w64}
use Rattle.hph_table.specs.Tells.{Peeks, Takes, Marks, PutsBack, Tries, Releases, Reads, Raises, Adds, Pays, Finishes, Waits}
use Rattle.hph_table.proofs.Codes as codes
use Rattle.hph_core.specs.Events.{of_hand}
use Rattle.hph_table.proofs.Shared.pay.Given as goal

abbrev pub ghosts-fetch_sub : goal.ghosts-fetch_sub
ghosts-fetch_sub g a = record { then = Pays }
