-- The files of a tree: this project's own. A path is the bytes of its text, and so is what a file holds.
use Rattle.std.specs.Prelude.{ℕ, List, Option, map, String, Vec}
use Rattle.std.specs.Ordering.{nat_cmp}
use Rattle.std.specs.declared.cmp.Ordering.{Ordering}
use Rattle.std.specs.Cmp.Lexicographic.{slice_cmp}
use Rattle.std.specs.Coded.{Coded, coded_list, coded_ℕ}
use Rattle.std.specs.FinMap as fin_map
use Rattle.std.specs.FinMap.{FinMap}
use Rattle.std.specs.String.{string_bytes}
use Rattle.std.specs.declared.alloc.Global.{Global}

-- paths in the order of their bytes
abbrev pub path_cmp : List ℕ → List ℕ → Ordering
path_cmp = slice_cmp nat_cmp

-- what each file holds, by its path
abbrev pub Files : Type 0
Files = FinMap path_cmp (List ℕ)

-- how files are stored as data
abbrev pub coded_files : Coded Files
coded_files = fin_map.code (coded_list coded_ℕ) (coded_list coded_ℕ)

-- what the file at a path holds, if there is one
abbrev pub file_at : Files → List ℕ → Option (List ℕ)
file_at files path = fin_map.get files path

-- the files of a map's entries
abbrev pub files_of : List (String Global × Vec ℕ Global) → Files
files_of entries = fin_map.from_entries (map (λ e. (string_bytes e.0, e.1.items)) entries)
