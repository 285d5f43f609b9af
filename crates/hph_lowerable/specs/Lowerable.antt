-- When a program may be lowered: one condition, told by folds over its trees as they are, with their sites numbered. What stands
-- behind the front end requires this and nothing else of a program. This project's own.
use Rattle.std.specs.Prelude.{◌≡◌, ◌≤◌, ◌+◌, ◌*◌, ℕ, Bool, true, false, List, [], length, map, flat_map, bytes_eq}
use Rattle.std.specs.List.{list_all, list_any}
use Rattle.std.specs.Option.{option_map_or}
use Rattle.hph_ast.specs.declared.program.File.{File}
use Rattle.hph_ast.specs.declared.program.Program.{Program}
use Rattle.hph_ast.specs.RefusedExpressions.{Shape}
use Rattle.hph_ast.specs.RefusedStatements.{file_refused}
use Rattle.hph_php.specs.Cost.{program_nodes}
use Rattle.hph_php.specs.Declarations.{path_of}
use Rattle.hph_php.specs.Includes.{folder}
use Rattle.hph_program.specs.Names.{AgreesOnNames}
use Rattle.hph_program.specs.Program.{files_limit}
use Rattle.hph_program.specs.Sources.{includes_in, path_named}
use Rattle.hph_program.specs.WellFormed.{HasPlacesApart, tokens_limit}
use Rattle.hph_lowerable.specs.Facts.{tree_fits}

-- ---- includes

-- the literal of an include in a file of this folder names one of the files with these paths
abbrev pub names_file : (paths : List (List ℕ)) → (here : List ℕ) → Shape → Bool
names_file paths here literal = option_map_or (λ path. list_any (bytes_eq path) paths) (path_named here literal) false

abbrev pub includes_fit : (paths : List (List ℕ)) → File → Bool
includes_fit paths f = list_all (names_file paths (folder (path_of f))) (flat_map includes_in f.tree.statements)

-- ---- programs

-- a node for each half of a token, and one for each file
abbrev pub nodes_limit : ℕ
nodes_limit = 2 * tokens_limit + files_limit

pub record IsLowerable (p : Program) : Type 0 where
  pub main : 1 ≤ length p.files
  pub few : length p.files ≤ files_limit
  pub few_nodes : program_nodes p ≤ nodes_limit
  -- ints, written targets, operators in a row, constant values
  pub fits : list_all (λ (f : File). tree_fits f.tree) p.files ≡ true
  -- no form that is refused: `break` and `continue` leave loops that are there, `self`, `parent`, `static` and `$this` stand where
  -- they are something, and includes are whole statements at the top level of a file
  pub refused : flat_map (λ (f : File). file_refused f.tree) p.files ≡ []
  pub includes : list_all (includes_fit (map path_of p.files)) p.files ≡ true
  pub places : HasPlacesApart p
  pub names : AgreesOnNames p
