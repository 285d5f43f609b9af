-- The answer for a source file that has no module.
use Rattle.std.specs.Prelude.{ℕ, String}
use Rattle.std.specs.declared.alloc.Global.{Global}
use Rattle.hph_ast.specs.declared.refusal.Spot.{Spot}
use Rattle.hph_ast.specs.declared.refusal.Refusal.TheVariants as refusal
use Rattle.hph_compile.specs.declared.fault.SourceFault.{SourceFault}
use Rattle.hph_compile.specs.declared.fault.SourceFault.TheVariants as fault
use Rattle.hph_drive.specs.declared.status.Status.{Status}
use Rattle.hph_drive.specs.declared.status.Status.TheVariants.{Refused, Unlowered, NoMemory}

-- the answer for a file of this path
abbrev pub spot : String Global → ℕ → Spot
spot path offset = record { file = path; offset = offset }

abbrev pub status_of : SourceFault → String Global → Status
status_of (fault.Lex kind offset) path = Refused (refusal.Lex kind (spot path offset))
status_of (fault.Construct kind offset) path = Refused (refusal.Construct kind (spot path offset))
status_of (fault.TooDeep offset) path = Refused (refusal.TooDeep (spot path offset))
status_of (fault.Syntax offset) path = Refused (refusal.Syntax (spot path offset))
status_of (fault.Unlowered offset) path = Unlowered (spot path offset)
status_of fault.NoMemory path = NoMemory
