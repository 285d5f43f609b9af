use Rattle.std.proofs.Common.{◌/◌, ◌%◌, ◌+◌, ◌*◌, ◌-◌}
use Rattle.std.specs.Int.{bit_at, bit_not, trailing_zeros}
use mir.Syntax.{w64}
use Rattle.hph_table.specs.Tells.{Peeks, Takes, Marks, PutsBack, Tries, Releases, Reads, Raises, Adds, Pays, Finishes, Waits}
use Rattle.hph_table.proofs.Codes as codes
use Rattle.hph_core.specs.Events.{of_hand}
use Rattle.hph_table.proofs.Shared.try_hold.Given as goal

abbrev pub ghosts-compare_exchange : goal.ghosts-compare_exchange
ghosts-compare_exchange g a = record { then = Tries (a.word - ((g.S.System.shape a.self.now.key.system.value).scopes + 63) / 64) }
