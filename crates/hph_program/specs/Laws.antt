-- What the definition of programs is worth.
use Rattle.std.specs.Prelude.{◌≡◌, ℕ, List, [], ◌∷◌, map, Some, None, String}
use Rattle.std.specs.String.{string_bytes}
use Rattle.std.specs.declared.alloc.Global.{Global}
use Rattle.hph_src.specs.Files.{Files, file_at}
use Rattle.hph_ast.specs.declared.token.Token.{Token}
use Rattle.hph_ast.specs.declared.program.File.{File}
use Rattle.hph_ast.specs.declared.program.FileTree.{FileTree}
use Rattle.hph_ast.specs.declared.program.Program.{Program}
use Rattle.hph_ast.specs.Tokens.{SpellsTokens}
use Rattle.hph_ast.specs.StatementNesting.{SpellsTree}
use Rattle.hph_ast.specs.Faults.{FirstFault}
use Rattle.hph_php.specs.Cost.{cost}
use Rattle.hph_php.specs.Includes.{normalised}
use Rattle.hph_php.specs.Run.{php, calls}
use Rattle.hph_program.specs.Sources.{content, IsSource}
use Rattle.hph_program.specs.Program.{Waves, IsProgramOf}
use Rattle.hph_program.specs.WellFormed.{IncludeEachOther}

-- bytes spell at most one list of tokens, and tokens at most one tree
abbrev pub TokensAreOne : Type 0
TokensAreOne = (bytes : List ℕ) (ts us : List Token) → SpellsTokens bytes ts → SpellsTokens bytes us → ts ≡ us

abbrev pub TreesAreOne : Type 0
TreesAreOne = (tokens : List Token) (x y : FileTree) → SpellsTree tokens x → SpellsTree tokens y → x ≡ y

-- a file of a program has no fault, and a file without a fault can be one of a program
abbrev pub SourcesHaveNoFault : Type 0
SourcesHaveNoFault = (files : Files) (path : List ℕ) (f : File) → IsSource files path f → FirstFault f.bytes None

abbrev pub FaultlessFilesAreSources : Type 0
FaultlessFilesAreSources = (files : Files) (path : String Global) (bytes : List ℕ) →
    file_at files (string_bytes path) ≡ Some bytes → FirstFault bytes None →
    (f : File) × (f.path ≡ path) × (f.bytes ≡ bytes) × IsSource files (string_bytes path) f

-- from a main file on a source tree has one program, but for how the texts of paths are kept
abbrev pub ProgramsAreOne : Type 0
ProgramsAreOne = (files : Files) (main : List ℕ) (p q : Program) → IsProgramOf files main p → IsProgramOf files main q →
    map content p.files ≡ map content q.files

-- two programs do the same with so many units
pub record DoTheSame (p q : Program) (units : ℕ) : Type 0 where
  pub php : php p units ≡ php q units
  pub calls : calls p units ≡ calls q units
  pub cost : cost p units ≡ cost q units

-- what a program does is told by the contents of its files
abbrev pub ContentsDecide : Type 0
ContentsDecide = (p q : Program) → map content p.files ≡ map content q.files → (units : ℕ) → DoTheSame p q units

-- the files of all waves from a main file on include no other files
abbrev pub WavesAreClosed : Type 0
WavesAreClosed = (files : Files) (main : List ℕ) (all : List File) → Waves files [] (normalised main ∷ []) all → IncludeEachOther all
