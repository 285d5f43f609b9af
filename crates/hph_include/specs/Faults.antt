-- Why a source tree has no program from a main file on: the first fault in the order in which a front end tests. Wave by wave comes
-- first the limit of files; then, file by file, that one is missing, and the limits of bytes; then the first file that has a fault.
-- This project's own.
use Rattle.std.specs.Prelude.{◌≡◌, ◌≤◌, ◌<◌, ◌+◌, ℕ, List, [], ◌∷◌, ◌++◌, map, length, sum_by, slice_get, Option, Some, None}
use Rattle.std.specs.List.{AllZip}
use Rattle.hph_ast.specs.declared.program.File.{File}
use Rattle.hph_ast.specs.declared.refusal.LimitName.{LimitName}
use Rattle.hph_ast.specs.declared.refusal.LimitName.TheVariants.{FileBytes, AllBytes, Files as FileCount}
use Rattle.hph_ast.specs.Faults.{FileFault, FirstFault}
use Rattle.hph_php.specs.Declarations.{path_of}
use Rattle.hph_php.specs.Includes.{normalised}
use Rattle.hph_program.specs.Program.{Waves, IsWithinLimits, next_wave, files_limit, file_bytes_limit, all_bytes_limit}
use Rattle.hph_program.specs.Sources.{IsSource}
use Rattle.hph_src.specs.Files.{Files, file_at}

-- ---- programs

-- the files of all waves from a main file on, within the limits
pub record AreSources (files : Files) (main : List ℕ) (all : List File) : Type 0 where
  pub waves : Waves files [] (normalised main ∷ []) all
  pub limits : IsWithinLimits all

-- ---- faults

-- a fault, and the file's path
pub data ProgramFault : Type 0 where
  missing : List ℕ → ProgramFault
  past_limit : LimitName → List ℕ → ProgramFault
  in_file : List ℕ → FileFault → ProgramFault

abbrev pub bytes_of : List File → ℕ
bytes_of fs = sum_by (λ (f : File). length f.bytes) fs

-- what a file holds that is short enough, also together with the bytes of those before it
pub record Holds (files : Files) (before : ℕ) (path bytes : List ℕ) : Type 0 where
  pub holds : file_at files path ≡ Some bytes
  pub short : length bytes ≤ file_bytes_limit
  pub short_together : before + length bytes ≤ all_bytes_limit

-- what the files at some paths hold, read in order after so many bytes
pub data AreRead (files : Files) : (before : ℕ) → List (List ℕ) → List (List ℕ) → Type 0 where
  nothing : {before : ℕ} → AreRead files before [] []
  another : {before : ℕ} {path : List ℕ} {paths : List (List ℕ)} {bytes : List ℕ} {contents : List (List ℕ)} →
      Holds files before path bytes → AreRead files (before + length bytes) paths contents → AreRead files before (path ∷ paths) (bytes ∷ contents)

-- why they aren't all read
pub data Stops (files : Files) : (before : ℕ) → List (List ℕ) → ProgramFault → Type 0 where
  absent : {before : ℕ} {path : List ℕ} {paths : List (List ℕ)} → file_at files path ≡ None → Stops files before (path ∷ paths) (missing path)
  long : {before : ℕ} {path : List ℕ} {paths : List (List ℕ)} {bytes : List ℕ} →
      file_at files path ≡ Some bytes → file_bytes_limit < length bytes → Stops files before (path ∷ paths) (past_limit FileBytes path)
  long_together : {before : ℕ} {path : List ℕ} {paths : List (List ℕ)} {bytes : List ℕ} →
      file_at files path ≡ Some bytes → length bytes ≤ file_bytes_limit → all_bytes_limit < before + length bytes → Stops files before (path ∷ paths) (past_limit AllBytes path)
  behind : {before : ℕ} {path : List ℕ} {paths : List (List ℕ)} {bytes : List ℕ} {fault : ProgramFault} →
      Holds files before path bytes → Stops files (before + length bytes) paths fault → Stops files before (path ∷ paths) fault

-- the first fault of the first file that has one, by the paths and the contents of files
pub data FirstOf : (paths contents : List (List ℕ)) → ProgramFault → Type 0 where
  here : {path bytes : List ℕ} {paths contents : List (List ℕ)} {fault : FileFault} →
      FirstFault bytes (Some fault) → FirstOf (path ∷ paths) (bytes ∷ contents) (in_file path fault)
  later : {path bytes : List ℕ} {paths contents : List (List ℕ)} {fault : ProgramFault} →
      FirstFault bytes None → FirstOf paths contents fault → FirstOf (path ∷ paths) (bytes ∷ contents) fault

-- the first fault behind the files that were read, by the paths of a wave
pub data Refuses (files : Files) : List File → List (List ℕ) → ProgramFault → Type 0 where
  many : {read : List File} {wave : List (List ℕ)} {path : List ℕ} →
      slice_get (map path_of read ++ wave) files_limit ≡ Some path → Refuses files read wave (past_limit FileCount path)
  unread : {read : List File} {wave : List (List ℕ)} {fault : ProgramFault} →
      length read + length wave ≤ files_limit → Stops files (bytes_of read) wave fault → Refuses files read wave fault
  faulty : {read : List File} {wave contents : List (List ℕ)} {fault : ProgramFault} →
      length read + length wave ≤ files_limit → AreRead files (bytes_of read) wave contents → FirstOf wave contents fault → Refuses files read wave fault
  behind : {read : List File} {wave contents : List (List ℕ)} {fault : ProgramFault} (fs : List File) →
      length read + length wave ≤ files_limit → AreRead files (bytes_of read) wave contents → AllZip (IsSource files) wave fs →
      Refuses files (read ++ fs) (next_wave (read ++ fs) fs) fault → Refuses files read wave fault

-- the first fault of a source tree from a main file on
abbrev pub IsFirstFault : Files → List ℕ → ProgramFault → Type 0
IsFirstFault files main = Refuses files [] (normalised main ∷ [])
