-- The refusal of a file, with its path.
use Rattle.std.specs.Prelude.{ℕ, String}
use Rattle.std.specs.declared.alloc.Global.{Global}
use Rattle.hph_ast.specs.declared.refusal.Spot.{Spot}
use Rattle.hph_ast.specs.declared.refusal.Refusal.TheVariants as refusal
use Rattle.hph_file.specs.declared.fault.FileFault.{FileFault}
use Rattle.hph_file.specs.declared.fault.FileFault.TheVariants as fault
use Rattle.hph_include.specs.declared.fault.FrontFault.{FrontFault}
use Rattle.hph_include.specs.declared.fault.FrontFault.TheVariants.{Refused, NoMemory}

abbrev pub spot : String Global → ℕ → Spot
spot path offset = record { file = path; offset = offset }

abbrev pub refusal_of : FileFault → String Global → FrontFault
refusal_of (fault.Lex kind offset) path = Refused (refusal.Lex kind (spot path offset))
refusal_of (fault.Construct kind offset) path = Refused (refusal.Construct kind (spot path offset))
refusal_of (fault.TooDeep offset) path = Refused (refusal.TooDeep (spot path offset))
refusal_of (fault.Syntax offset) path = Refused (refusal.Syntax (spot path offset))
refusal_of fault.NoMemory path = NoMemory
