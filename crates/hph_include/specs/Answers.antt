-- What the closure over included files answers.
use Rattle.std.specs.Prelude.{ℕ, List, String, Option, Some, None, MatchOption}
use Rattle.std.specs.String.{string_bytes}
use Rattle.hph_ast.specs.declared.refusal.Refusal.{Refusal}
use Rattle.hph_ast.specs.declared.refusal.Refusal.TheVariants as refusal
use Rattle.hph_ast.specs.Faults.{lex, construct, too_many_brackets, syntax_error}
use Rattle.hph_include.specs.declared.fault.FrontFault.{FrontFault}
use Rattle.hph_include.specs.declared.fault.FrontFault.TheVariants.{Refused, ReadFault, NoMemory}
use Rattle.hph_include.specs.Faults.{ProgramFault, missing, past_limit, in_file}

-- the fault that a refusal tells; faults between declarations are none of a source tree
abbrev pub told_by : Refusal → Option ProgramFault
told_by (refusal.Lex kind spot) = Some (in_file (string_bytes spot.file) (lex kind spot.offset))
told_by (refusal.Construct kind spot) = Some (in_file (string_bytes spot.file) (construct kind spot.offset))
told_by (refusal.TooDeep spot) = Some (in_file (string_bytes spot.file) (too_many_brackets spot.offset))
told_by (refusal.Syntax spot) = Some (in_file (string_bytes spot.file) (syntax_error spot.offset))
told_by (refusal.Missing path) = Some (missing (string_bytes path))
told_by (refusal.Limit name file) = Some (past_limit name (string_bytes file))
told_by _ = None

-- a refusal tells a fault of which this holds
abbrev pub Tells : (ProgramFault → Type 0) → Refusal → Type 0
Tells P refusal = MatchOption (told_by refusal) ⊥ P

-- a refusal tells such a fault, and a read fault has its cause; memory may run out at any time
abbrev pub IsDueTo : (read_failed : Type 0) → (ProgramFault → Type 0) → FrontFault → Type 0
IsDueTo read_failed P (Refused refusal) = Tells P refusal
IsDueTo read_failed P ReadFault = read_failed
IsDueTo read_failed P NoMemory = Unit {0}
