-- The program of a source tree and a main file: its files in order of waves, with their sites numbered. The first wave is the main
-- file, and a later one has the paths that the files of the wave before include, each once, without those that are known. This
-- project's own.
use Rattle.std.specs.Prelude.{◌≡◌, ◌≤◌, ℕ, List, [], ◌∷◌, ◌++◌, map, flat_map, length, All, sum_by, if◌then◌else◌, bytes_eq}
use Rattle.std.specs.List.{list_any, AllZip}
use Rattle.hph_src.specs.Files.{Files}
use Rattle.hph_ast.specs.declared.program.File.{File}
use Rattle.hph_ast.specs.declared.program.Program.{Program}
use Rattle.hph_php.specs.Declarations.{path_of}
use Rattle.hph_php.specs.Includes.{normalised}
use Rattle.hph_program.specs.Sites.{numbered_files}
use Rattle.hph_program.specs.Sources.{IsSource, included}

-- ---- waves

-- those of some paths that aren't known, each once, in order
abbrev pub new_paths : (known : List (List ℕ)) → List (List ℕ) → List (List ℕ)
new_paths known [] = []
new_paths known (p ∷ ps) = if list_any (bytes_eq p) known then new_paths known ps else p ∷ new_paths (p ∷ known) ps

-- what the files of a wave include that wasn't read, where `files` are all that were read
abbrev pub next_wave : (files wave : List File) → List (List ℕ)
next_wave files wave = new_paths (map path_of files) (flat_map included wave)

-- from the files that were read, by the paths of a wave, to all files
pub data Waves (files : Files) : List File → List (List ℕ) → List File → Type 0 where
  last : {read : List File} → Waves files read [] read
  wave : {read all : List File} {path : List ℕ} {paths : List (List ℕ)} (fs : List File) →
      AllZip (IsSource files) (path ∷ paths) fs → Waves files (read ++ fs) (next_wave (read ++ fs) fs) all → Waves files read (path ∷ paths) all

-- ---- limits

-- files of a program
abbrev pub files_limit : ℕ
files_limit = 4096

-- bytes of one file, and of all files
abbrev pub file_bytes_limit : ℕ
file_bytes_limit = 1048576

abbrev pub all_bytes_limit : ℕ
all_bytes_limit = 4194304

pub record IsWithinLimits (all : List File) : Type 0 where
  pub few : length all ≤ files_limit
  pub short : All (λ (f : File). length f.bytes ≤ file_bytes_limit) all
  pub short_together : sum_by (λ (f : File). length f.bytes) all ≤ all_bytes_limit

-- ---- programs

-- the files of a source tree from a main file on are this program
pub record IsProgramOf (files : Files) (main : List ℕ) (p : Program) : Type 0 where
  pub sources : List File
  pub waves : Waves files [] (normalised main ∷ []) sources
  pub limits : IsWithinLimits sources
  pub numbered : p.files ≡ numbered_files sources
