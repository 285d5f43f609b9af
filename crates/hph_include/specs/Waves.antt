-- How far the waves have come.
use Rattle.std.specs.Prelude.{◌≡◌, ◌≤◌, ℕ, List, [], ◌∷◌, ◌++◌, map, length, Some, Result, MatchResult, String}
use Rattle.std.specs.String.{string_bytes}
use Rattle.std.specs.declared.alloc.Global.{Global}
use Rattle.hph_src.specs.Files.{Files}
use Rattle.hph_ast.specs.declared.program.File.{File}
use Rattle.hph_ast.specs.Faults.{FirstFault}
use Rattle.hph_file.specs.Answers.{IsParsed}
use Rattle.hph_php.specs.Declarations.{path_of}
use Rattle.hph_php.specs.Includes.{normalised}
use Rattle.hph_program.specs.Program.{Waves, IsWithinLimits}
use Rattle.hph_include.specs.declared.fault.FrontFault.{FrontFault}
use Rattle.hph_include.specs.declared.source.Source.{Source}
use Rattle.hph_include.specs.Faults.{ProgramFault, in_file, Refuses, IsFirstFault}
use Rattle.hph_include.specs.Answers.{IsDueTo}
use Rattle.hph_ast.specs.Faults as file

-- ---- one wave

abbrev pub paths_of : List Source → List (List ℕ)
paths_of sources = map (λ (s : Source). string_bytes s.path) sources

abbrev pub contents_of : List Source → List (List ℕ)
contents_of sources = map (λ (s : Source). s.bytes) sources

-- a file that a source spells
pub record IsFileOf (source : Source) (f : File) : Type 0 where
  pub path : path_of f ≡ string_bytes source.path
  pub bytes : f.bytes ≡ source.bytes
  pub parsed : IsParsed f.bytes f.tokens f.tree

-- the first fault of a source
pub record IsFaultOf (source : Source) (fault : ProgramFault) : Type 0 where
  pub of_file : file.FileFault
  pub is : fault ≡ in_file (string_bytes source.path) of_file
  pub first : FirstFault source.bytes (Some of_file)

-- the file of a source, or its first fault
abbrev pub IsFrontOf : Source → Result File FrontFault → Type 0
IsFrontOf source front = MatchResult front (IsFileOf source) (IsDueTo ⊥ (IsFaultOf source))

-- ---- all waves so far

-- What comes behind the files that were read, by the paths of a wave, comes from the main file on.
pub record Reaches (files : Files) (main : List ℕ) (read : List File) (wave : List (List ℕ)) : Type 0 where
  pub waves : (all : List File) → Waves files read wave all → Waves files [] (normalised main ∷ []) all
  pub faults : (fault : ProgramFault) → Refuses files read wave fault → IsFirstFault files main fault
  pub limits : IsWithinLimits read

-- the known paths are those of the files that were read, and of a wave
abbrev pub Knows : Files → List ℕ → List File → List (List ℕ) → Type 0
Knows files main read known = (wave : List (List ℕ)) × (known ≡ map path_of read ++ wave) × Reaches files main read wave
