use Rattle.std.proofs.Common.{◌/◌, ◌%◌, ◌+◌, ◌*◌, ◌-◌}
use Rattle.std.specs.Int.{bit_at, bit_not, trailing_zeros}
use mir.Syntax.{w64}
use Rattle.hph_table.specs.Tells.{Peeks, Takes, Marks, PutsBack, Tries, Releases, Reads, Raises, Adds, Pays, Finishes, Waits}
use Rattle.hph_table.proofs.Codes as codes
use Rattle.hph_core.specs.Events.{of_hand}
use Rattle.hph_table.proofs.Shared.raise.Given as goal

abbrev pub ghosts-store : goal.ghosts-store
ghosts-store g a = record { then = Raises (a.word - (((g.S.System.shape a.self.now.key.system.value).scopes + 63) / 64 + (g.S.System.shape a.self.now.key.system.value).scopes)) ((g.S.System.shape a.self.now.key.system.value).owner (a.word - (((g.S.System.shape a.self.now.key.system.value).scopes + 63) / 64 + (g.S.System.shape a.self.now.key.system.value).scopes))) (codes.decode a.new) }
