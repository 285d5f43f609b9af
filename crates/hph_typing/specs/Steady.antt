-- The walk from MAIN, and which names are steady: those with one declaration, that is unconditional and that the walk makes.
-- This project's own.
use Rattle.std.specs.Prelude.{◌==◌, ◌&&◌, ℕ, zero, suc, Bool, true, false, not, List, [], ◌∷◌, map, fold, length, position, Option, None, slice_get, bytes_eq, if◌then◌else◌}
use Rattle.std.specs.List.{filter, list_any}
use Rattle.std.specs.Option.{option_map, option_map_or}
use Rattle.hph_ast.specs.declared.function.Function.{Function}
use Rattle.hph_ast.specs.declared.class.Class.{Class}
use Rattle.hph_ast.specs.declared.class.Member.{Member}
use Rattle.hph_ast.specs.declared.class.Member.TheOpen.{Statement-F}
use Rattle.hph_ast.specs.declared.expr.Expr.{out-Expr}
use Rattle.hph_ast.specs.declared.expr.ClassReference.TheOpen.{Expr-F}
use Rattle.hph_ast.specs.declared.operator.IncludeForm.{IncludeForm}
use Rattle.hph_ast.specs.declared.operator.Prefix.TheVariants as prefix
use Rattle.hph_ast.specs.declared.stmt.Statement.{Statement, out-Statement}
use Rattle.hph_ast.specs.declared.stmt.Case.{Case}
use Rattle.hph_ast.specs.declared.stmt.ElseIf.{ElseIf}
use Rattle.hph_ast.specs.declared.program.File.{File}
use Rattle.hph_ast.specs.declared.program.Program.{Program}
use Rattle.hph_ast.specs.Layers.{ExprLayer}
use Rattle.hph_ast.specs.RefusedExpressions.{part}
use Rattle.hph_php.specs.State.{Name, is_site}
use Rattle.hph_php.specs.Declarations.{Declaration, a_function, a_class, declaration_site, path_of}
use Rattle.hph_php.specs.Includes.{folder, is_once}
use Rattle.hph_php.specs.Files.{top_functions, top_classes}
use Rattle.hph_program.specs.Sources.{path_named}
use Rattle.hph_typing.specs.Scopes.{Placed, same_name, spelled, is_class, is_like, parent_of, scope_at}

-- The walk: the numbers of the files that it entered, the declarations that it made, the last first, and whether it goes on.
pub record Walk : Type 0 where
  pub entered : List ℕ
  pub made : List Placed
  pub goes_on : Bool

abbrev pub stopped : Walk → Walk
stopped w = record w { goes_on = false }

abbrev pub making : ℕ → Walk → Declaration → Walk
making file w d = record w { made = (file, d) ∷ w.made }

abbrev pub has_made : ℕ → Declaration → Walk → Bool
has_made file d w = list_any (λ m. is_site (declaration_site (file, d)) (declaration_site m)) w.made

-- a class of that name was made
abbrev pub is_declared : Name → Walk → Bool
is_declared name w = list_any (λ m. is_class m.1 && same_name name (spelled m.1)) w.made

-- a class that has no parent or whose parent is declared
abbrev pub is_ready : Class → Walk → Bool
is_ready c w = option_map_or (λ parent. is_declared parent w) (parent_of (a_class c)) true

-- ---- the declarations of an entry

abbrev pub make_ready : ℕ → Walk → Class → Walk
make_ready file w c = if is_ready c w then making file w (a_class c) else w

abbrev pub at_entry : ℕ → List Statement → Walk → Walk
at_entry file ss w =
    fold (make_ready file) (fold (λ v f. making file v (a_function f)) (record w { entered = file ∷ w.entered }) (top_functions ss)) (top_classes ss)

-- ---- the statements of a file

-- an include statement's form and the path that it names, from the file's folder
abbrev pub include_of : List ℕ → ExprLayer → Option (IncludeForm × List ℕ)
include_of directory (Expr-F.Prefix at (prefix.Include form) x) = option_map (λ path. (form, path)) (path_named directory (part x).shape)
include_of directory _ = None

abbrev pub file_numbered : List File → List ℕ → Option ℕ
file_numbered files path = position (λ (f : File). bytes_eq path (path_of f)) files

-- in a file; `enter` goes into another
module _ (files : List File) (enter : ℕ → Walk → Walk) (file : ℕ) (directory : List ℕ) where
  -- it goes into a file that it hasn't entered, passes a _once form of one that it has, and stops at the others
  abbrev pub at_file : IncludeForm → Walk → ℕ → Walk
  at_file form w number =
      if not (list_any (λ n. n == number) w.entered) then enter number w else (if is_once form then w else stopped w)

  abbrev pub at_include : Walk → IncludeForm × List ℕ → Walk
  at_include w i = option_map_or (at_file i.0 w) (file_numbered files i.1) (stopped w)

  abbrev pub at_statement : Walk → Statement-F Member Statement Class Function Case ElseIf → Walk
  at_statement w (Statement-F.Empty at) = w
  at_statement w (Statement-F.Function f) = w
  at_statement w (Statement-F.Class c) = if has_made file (a_class c) w then w else making file w (a_class c)
  at_statement w (Statement-F.Expression at x) = option_map_or (at_include w) (include_of directory (out-Expr x)) (stopped w)
  at_statement w _ = stopped w

  abbrev pub step : Walk → Statement → Walk
  step w s = if w.goes_on then at_statement w (out-Statement s) else w

  -- the declarations of its entry, and then its statements
  abbrev pub in_file : File → Walk → Walk
  in_file f w = fold step (at_entry file f.tree.statements w) f.tree.statements

-- it enters each file once, so as many levels are enough as there are files
abbrev pub enter_file : List File → ℕ → ℕ → Walk → Walk
enter_file files zero number w = w
enter_file files (suc levels) number w =
    option_map_or (λ f. in_file files (enter_file files levels) number (folder (path_of f)) f w) (slice_get files number) w

-- the declarations that the walk makes, in its order
abbrev pub made_by_walk : Program → List Placed
made_by_walk p = reversed (enter_file p.files (length p.files) 0 (record { entered = []; made = []; goes_on = true })).made
  where
    reversed : List Placed → List Placed
    reversed ds = fold (λ before d. d ∷ before) [] ds

-- ---- steady names

abbrev pub declarations_like : List Placed → Declaration → List Placed
declarations_like ds d = filter (λ e. is_like d e.1 && same_name (spelled d) (spelled e.1)) ds

-- exactly one declaration in the program
abbrev pub has_one_declaration : List Placed → Declaration → Bool
has_one_declaration ds d = length (declarations_like ds d) == 1

-- no parent, or a steady one that was made before
abbrev pub has_steady_parent : List Name → Declaration → Bool
has_steady_parent before d = option_map_or (λ parent. list_any (same_name parent) before) (parent_of d) true

-- the steady ones of what the walk makes; all that it makes is unconditional
abbrev pub steady_from : List Placed → (before : List Name) → List Placed → List Placed
steady_from ds before [] = []
steady_from ds before (d ∷ made) =
    if has_one_declaration ds d.1 && has_steady_parent before d.1
    then d ∷ steady_from ds (if is_class d.1 then spelled d.1 ∷ before else before) made
    else steady_from ds before made

abbrev pub steady_declarations : List Placed → Program → List Placed
steady_declarations ds p = steady_from ds [] (made_by_walk p)

-- the scopes of the steady functions and classes, and of the steady classes alone, in order of the walk
abbrev pub steady_scopes : List Placed → Program → List ℕ
steady_scopes ds p = map (λ d. scope_at ds (declaration_site d)) (steady_declarations ds p)

abbrev pub steady_classes : List Placed → Program → List ℕ
steady_classes ds p = map (λ d. scope_at ds (declaration_site d)) (filter (λ d. is_class d.1) (steady_declarations ds p))
