-- What each answer says, and what it leaves. This project's own.
-- The cases of `SaysOfFile` exclude one another, so each answer comes exactly where its case holds.
use Rattle.std.specs.Prelude.{◌≡◌, ◌<◌, ◌≤◌, ◌⊎◌, ℕ, List, length, Option, Some, None, Ok, string_bytes}
use Rattle.hph_src.specs.Sink.{grown_by, GrowsByPrefix}
use Rattle.hph_ast.specs.declared.program.FileTree.{FileTree}
use Rattle.hph_ast.specs.declared.refusal.LimitName.TheVariants.{FileBytes}
use Rattle.hph_ast.specs.declared.refusal.Refusal.{Refusal}
use Rattle.hph_ast.specs.declared.refusal.Refusal.TheVariants.{Lex, Construct, TooDeep, Syntax, Missing, Limit, MixedByRef, PrivateShadow, RefArgument}
use Rattle.hph_ast.specs.Faults.{FileFault, lex, construct, too_many_brackets, syntax_error, FirstFault}
use Rattle.hph_file.specs.Answers.{IsRead}
use Rattle.hph_text.specs.Texts.{file_texts}
use Rattle.hph_drive.specs.declared.status.Status.{Status}
use Rattle.hph_drive.specs.declared.status.Status.TheVariants.{Built, Usage, Refused, Unlowered, ReadFault, WriteFault, NoMemory}
use Rattle.hph_compile.specs.Headline.{CompilesTo}
use Rattle.hph_drive.specs.Lines.{line_of}
use Rattle.hph_compile.specs.Sources.{file_limit, IsUnlowered}

-- a source file that isn't too long
abbrev pub IsSource : Option (List ℕ) → List ℕ → Type 0
IsSource file source = (file ≡ Some source) × (length source ≤ file_limit)

-- the module of a source was written
abbrev pub WritesModule : List ℕ → Option (List ℕ) → Option (List ℕ) → Type 0
WritesModule source old new = (bytes : List ℕ) × CompilesTo source bytes × (new ≡ grown_by old bytes)

-- a prefix of it was written
abbrev pub WritesPrefix : List ℕ → Option (List ℕ) → Option (List ℕ) → Type 0
WritesPrefix source old new = (bytes : List ℕ) × CompilesTo source bytes × GrowsByPrefix old new bytes

-- a source file with this first fault
abbrev pub HasFault : Option (List ℕ) → FileFault → Type 0
HasFault file fault = (source : List ℕ) × IsSource file source × FirstFault source (Some fault)

-- what a refusal says of MAIN's file; the other limits, and faults between declarations, never come yet
abbrev pub ShowsFault : Option (List ℕ) → Refusal → Type 0
ShowsFault file (Missing path) = file ≡ None
ShowsFault file (Limit FileBytes path) = (source : List ℕ) × (file ≡ Some source) × (file_limit < length source)
ShowsFault file (Lex kind spot) = HasFault file (lex kind spot.offset)
ShowsFault file (Construct kind spot) = HasFault file (construct kind spot.offset)
ShowsFault file (TooDeep spot) = HasFault file (too_many_brackets spot.offset)
ShowsFault file (Syntax spot) = HasFault file (syntax_error spot.offset)
ShowsFault file _ = ⊥

-- a source file without a fault, whose first node that can't be compiled yet begins at the offset
abbrev pub ShowsUnlowered : Option (List ℕ) → ℕ → Type 0
ShowsUnlowered file offset = (source : List ℕ) × IsSource file source × IsUnlowered source offset

-- What an answer says of MAIN's file, and of what was written to standard output.
abbrev pub SaysOfFile : Option (List ℕ) → Option (List ℕ) → Option (List ℕ) → Status → Type 0
SaysOfFile file old new Built = (source : List ℕ) × IsSource file source × WritesModule source old new
SaysOfFile file old new Usage = ⊥
SaysOfFile file old new (Refused refusal) = ShowsFault file refusal
SaysOfFile file old new (Unlowered spot) = ShowsUnlowered file spot.offset
SaysOfFile file old new ReadFault = Unit {0}
SaysOfFile file old new WriteFault = (source : List ℕ) × IsSource file source × WritesPrefix source old new
SaysOfFile file old new NoMemory = (new ≡ old) ⊎ ((source : List ℕ) × IsSource file source × WritesPrefix source old new)

-- A file without a fault whose nodes can all be compiled is built, or memory runs out, where no read and no write failed.
abbrev pub Succeeds : Option (List ℕ) → (read_failed write_failed : Type 0) → Status → Type 0
Succeeds file read_failed write_failed status =
    (source : List ℕ) (tree : FileTree) (texts : List (List ℕ)) → IsSource file source → IsRead source tree → file_texts tree ≡ Ok texts →
    (read_failed → ⊥) → (write_failed → ⊥) → (status ≡ Built) ⊎ (status ≡ NoMemory)

-- what an answer says of the put of a module, where a fault of the sink was counted or not
abbrev pub SaysOfPut : List ℕ → Option (List ℕ) → Option (List ℕ) → Type 0 → Status → Type 0
SaysOfPut bytes old new failed Built = new ≡ grown_by old bytes
SaysOfPut bytes old new failed WriteFault = GrowsByPrefix old new bytes × failed
SaysOfPut bytes old new failed NoMemory = GrowsByPrefix old new bytes
SaysOfPut bytes old new failed _ = ⊥

-- the file that a refusal names
abbrev pub path_of : Refusal → List ℕ
path_of (Missing path) = string_bytes path
path_of (Limit name path) = string_bytes path
path_of (Lex kind spot) = string_bytes spot.file
path_of (Construct kind spot) = string_bytes spot.file
path_of (TooDeep spot) = string_bytes spot.file
path_of (Syntax spot) = string_bytes spot.file
path_of (MixedByRef first second) = string_bytes first.file
path_of (PrivateShadow first second) = string_bytes first.file
path_of (RefArgument spot) = string_bytes spot.file

-- a refusal names this file
abbrev pub NamesFile : List ℕ → Status → Type 0
NamesFile path (Refused refusal) = path_of refusal ≡ path
NamesFile path (Unlowered spot) = string_bytes spot.file ≡ path
NamesFile path _ = Unit {0}

-- nothing was written after these answers
abbrev pub LeavesAlone : Option (List ℕ) → Option (List ℕ) → Status → Type 0
LeavesAlone old new Usage = new ≡ old
LeavesAlone old new (Refused refusal) = new ≡ old
LeavesAlone old new (Unlowered spot) = new ≡ old
LeavesAlone old new ReadFault = new ≡ old
LeavesAlone old new _ = Unit {0}

-- standard error has the line, or a prefix of it where a put failed
abbrev pub HasLine : Option (List ℕ) → Option (List ℕ) → Type 0 → List ℕ → Type 0
HasLine old new failed line = (new ≡ grown_by old line) ⊎ (failed × GrowsByPrefix old new line)

-- Standard error has the status's line; after want of memory it has a prefix of some status's line.
abbrev pub Reports : Option (List ℕ) → Option (List ℕ) → Type 0 → Status → Type 0
Reports old new failed NoMemory = (status : Status) × GrowsByPrefix old new (line_of status)
Reports old new failed status = HasLine old new failed (line_of status)
