-- The number and the line of each status: this project's own.
use Rattle.std.specs.Prelude.{ℕ, List, [], ◌∷◌, ◌++◌, codes, string_bytes}
use Rattle.std.specs.Fmt.{decimal}
use Rattle.hph_ast.specs.declared.refusal.LimitName.{LimitName}
use Rattle.hph_ast.specs.declared.refusal.LimitName.TheVariants.{FileBytes, AllBytes, Files, ModuleBytes}
use Rattle.hph_ast.specs.declared.refusal.Spot.{Spot}
use Rattle.hph_ast.specs.declared.refusal.Refusal.{Refusal}
use Rattle.hph_ast.specs.declared.refusal.Refusal.TheVariants.{Lex, Construct, TooDeep, Syntax, Missing, Limit, MixedByRef, PrivateShadow, RefArgument}
use Rattle.hph_drive.specs.declared.status.Status.{Status}
use Rattle.hph_drive.specs.declared.status.Status.TheVariants.{Built, Usage, Refused, Unlowered, ReadFault, WriteFault, NoMemory}
use Rattle.hph_drive.specs.Names.{lex_name, construct_name}

-- the byte that ends a line
abbrev pub line_feed : List ℕ
line_feed = 10 ∷ []

-- a limit's name and number
abbrev pub limit_text : LimitName → List ℕ
limit_text FileBytes = codes "file-bytes 1048576"
limit_text AllBytes = codes "all-bytes 4194304"
limit_text Files = codes "files 4096"
limit_text ModuleBytes = codes "module-bytes 67108864"

-- a file and an offset in it
abbrev pub spot_text : Spot → List ℕ
spot_text spot = string_bytes spot.file ++ (codes ":" ++ decimal spot.offset)

abbrev pub at_spot : Spot → List ℕ → List ℕ
at_spot spot what = codes "refused: " ++ (string_bytes spot.file ++ (codes ":" ++ (decimal spot.offset ++ (codes ": " ++ what))))

-- what a refusal says
abbrev pub refusal_text : Refusal → List ℕ
refusal_text (Lex kind spot) = at_spot spot (codes "lex " ++ lex_name kind)
refusal_text (Construct kind spot) = at_spot spot (codes "construct " ++ construct_name kind)
refusal_text (TooDeep spot) = at_spot spot (codes "too-deep")
refusal_text (Syntax spot) = at_spot spot (codes "syntax")
refusal_text (Missing path) = codes "refused: " ++ (string_bytes path ++ codes ": missing")
refusal_text (Limit name file) = codes "refused: " ++ (string_bytes file ++ (codes ": limit " ++ limit_text name))
refusal_text (MixedByRef first second) = at_spot first (codes "mixed-by-ref " ++ spot_text second)
refusal_text (PrivateShadow first second) = at_spot first (codes "private-shadow " ++ spot_text second)
refusal_text (RefArgument spot) = at_spot spot (codes "ref-argument")

-- the line on standard error; a module that was built has none
abbrev pub line_of : Status → List ℕ
line_of Built = []
line_of Usage = codes "usage: hphpc build MAIN" ++ line_feed
line_of (Refused refusal) = refusal_text refusal ++ line_feed
line_of (Unlowered spot) = at_spot spot (codes "unlowered") ++ line_feed
line_of ReadFault = codes "read fault" ++ line_feed
line_of WriteFault = codes "write fault" ++ line_feed
line_of NoMemory = codes "no memory" ++ line_feed

-- the number that the program ends with
abbrev pub number_of : Status → ℕ
number_of Built = 0
number_of Usage = 121
number_of (Refused refusal) = 122
number_of (Unlowered spot) = 122
number_of ReadFault = 124
number_of WriteFault = 125
number_of NoMemory = 126
