-- All files of the waves from a main file on are sources.
use Rattle.std.specs.Prelude.{ℕ, List, [], ◌∷◌, ◌++◌}
use Rattle.std.specs.List.{AllZip}
use Rattle.hph_src.specs.Files.{Files}
use Rattle.hph_ast.specs.declared.program.File.{File}
use Rattle.hph_program.specs.Sources.{IsSource}
use Rattle.hph_program.specs.Program.{Waves, last, wave}

abbrev pub IsAnySource : Files → File → Type 0
IsAnySource files f = (path : List ℕ) × IsSource files path f

abbrev pub AreSources : Files → List File → Type 0
AreSources files [] = Unit {0}
AreSources files (f ∷ fs) = IsAnySource files f × AreSources files fs

of_wave : (files : Files) (paths : List (List ℕ)) (fs : List File) → AllZip (IsSource files) paths fs → AreSources files fs
of_wave files [] [] a = tt
of_wave files [] (f ∷ fs) a = absurd a
of_wave files (p ∷ ps) [] a = absurd a
of_wave files (p ∷ ps) (f ∷ fs) a = ((p, a.0), of_wave files ps fs a.1)

both_sources : (files : Files) (fs gs : List File) → AreSources files fs → AreSources files gs → AreSources files (fs ++ gs)
both_sources files [] gs a b = b
both_sources files (f ∷ fs) gs a b = (a.0, both_sources files fs gs a.1 b)

all_sources : {files : Files} {read all : List File} {paths : List (List ℕ)} → Waves files read paths all → AreSources files read → AreSources files all
all_sources last a = a
all_sources {files} {read} (wave {path = path} {paths = paths} fs here w) a = all_sources w (both_sources files read fs a (of_wave files (path ∷ paths) fs here))

pub sources_of : {files : Files} {all : List File} {paths : List (List ℕ)} → Waves files [] paths all → AreSources files all
sources_of w = all_sources w tt
