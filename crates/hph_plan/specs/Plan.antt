-- What the code of a program goes by: where its literals lie in memory, which variables its first frame has, and which variables a
-- function's frame has. A slot is a place among these. This project's own.
use Rattle.std.specs.Prelude.{ℕ, ◌+◌, List, [], ◌∷◌, ◌++◌, map, flat_map, length, position, Option, None, Some, if◌then◌else◌, bytes_eq}
use Rattle.hph_ast.specs.declared.function.Function.{Function, out-Function}
use Rattle.hph_ast.specs.declared.function.Param.{Param}
use Rattle.hph_ast.specs.declared.program.File.{File}
use Rattle.hph_ast.specs.declared.program.Program.{Program}
use Rattle.hph_php.specs.State.{Name}
use Rattle.hph_php.specs.Declarations.{Codes, codes_of, path_of}
use Rattle.hph_php.specs.Includes.{folder}
use Rattle.hph_plan.specs.Parts.{Parts, each_part, statement_parts, distinct}

-- a program by its code and classes, its literals, each once, in the order in which they lie in memory from 0 on, and the variables
-- of its first frame in the order of their slots
pub record Plan : Type 0 where
  pub program : Codes
  pub texts : List (List ℕ)
  pub globals : List Name

-- ---- literals

-- where a text begins among texts that lie one behind the other from a place on
abbrev pub place_in : List (List ℕ) → (at : ℕ) → (text : List ℕ) → Option ℕ
place_in [] at text = None
place_in (t ∷ ts) at text = if bytes_eq t text then Some at else place_in ts (at + length t) text

abbrev pub file_parts : File → Parts
file_parts f = each_part (statement_parts (folder (path_of f))) f.tree.statements

abbrev pub texts_of : Program → List (List ℕ)
texts_of p = distinct [] (flat_map (λ f. (file_parts f).texts) p.files)

-- ---- slots

-- the variables at the top level of all files, and behind them what `global` statements alone name
abbrev pub globals_of : Program → List Name
globals_of p = distinct [] (flat_map (λ f. (file_parts f).variables) p.files ++ flat_map (λ f. (file_parts f).globals) p.files)

-- the variables of a function or method: its parameters, then the others in order of their first appearance
abbrev pub body_names : Function → List Name
body_names f = distinct [] (map (λ (p : Param). p.name.spelled) (out-Function f).params
    ++ (each_part (statement_parts []) (out-Function f).body).variables)

abbrev pub slot_in : List Name → Name → Option ℕ
slot_in names name = position (bytes_eq name) names

-- ---- the whole

abbrev pub plan_of : Program → Plan
plan_of p = record { program = codes_of p; texts = texts_of p; globals = globals_of p }
