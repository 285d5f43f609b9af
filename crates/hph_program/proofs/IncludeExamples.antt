-- Whole programs of several files: what they print, which functions they call, and which files they include. PHP 8.2 prints the same.
use Rattle.std.proofs.Common.{◌≡◌, ◌∙◌, ℕ, List, [], ◌∷◌, refl, codes, false, None, Some, String, Global}
use Rattle.std.specs.String.{string_bytes}
use Rattle.std.specs.Fmt.{digits}
use denote.Hole.Carrier.{out, roll, shown, hidden}
use Rattle.hph_ast.specs.declared.class.Member.TheBlock.{shown-the_row-Function-1, shown-the_row-Class-3}
use Rattle.hph_ast.specs.declared.operator.Prefix.TheVariants as prefix
use Rattle.hph_ast.specs.declared.operator.IncludeForm.TheVariants as form
use Rattle.hph_ast.specs.declared.expr.Expr.{Expr, roll-Expr}
use Rattle.hph_ast.specs.declared.expr.ClassReference.TheOpen.{Expr-F}
use Rattle.hph_ast.specs.declared.function.Function.{Function}
use Rattle.hph_ast.specs.declared.program.File.{File}
use Rattle.hph_ast.specs.declared.program.Program.{Program}
use Rattle.hph_ast.specs.RefusedExpressions.{a_text, a_directory_path, part}
use Rattle.hph_ast.specs.declared.stmt.Statement.{Statement, roll-Statement, out-Statement}
use Rattle.hph_wasm.specs.Outcome.{Done}
use Rattle.hph_php.specs.Answers.{Means, bind, give}
use Rattle.hph_php.specs.Codes.{all_builtins}
use Rattle.hph_php.specs.Declarations.{Codes, declarations_in, codes_of, all_declarations, placed_at, a_body}
use Rattle.hph_php.specs.Declarations as declaration
use Rattle.hph_php.specs.World.{World, Context}
use Rattle.hph_php.specs.Targets.{Reading, valued}
use Rattle.hph_php.specs.Includes.{include}
use Rattle.hph_php.specs.Statements.{Way, block}
use Rattle.hph_php.specs.Files.{entering}
use Rattle.hph_php.specs.Run.{Meanings, a_function, meanings_of, parameters, in_body, result_of, php, calls}
use Rattle.hph_php.proofs.Levels.{reading_rolled}
use Rattle.hph_program.specs.Sources.{path_named, includes_in, included}
use Rattle.hph_program.specs.Program.{new_paths, next_wave}
use Rattle.hph_program.proofs.Runs.{Reads, AllDone, php_is, calls_are, int_is, text_is, call_is, none_read, echo_is, does_is, returns_is, declares_is, none_done, and_done}
use Rattle.hph_program.proofs.Runs as means
use Rattle.hph_program.proofs.Trees.{trees, from_to, int, text, call, echo, expression, returned, function, declared, file}

-- ---- in m.php `<?php echo 1; include 'b.php'; echo h();`, and in b.php `<?php function h(){return 5;}`

abbrev include_b : Expr
include_b = roll-Expr (Expr-F.Prefix (from_to 14 29) (prefix.Include form.Include) (text 22 29 (codes "b.php")))

abbrev five_body : List Statement
five_body = returned 19 28 (int 26 27 5) ∷ []

abbrev five : Function
five = function 6 29 15 (codes "h") [] five_body

abbrev main_statements : List Statement
main_statements = echo 6 13 (int 11 12 1 ∷ []) ∷ expression 14 30 include_b ∷ echo 31 40 (call 36 39 (codes "h") [] ∷ []) ∷ []

abbrev other_statements : List Statement
other_statements = declared five ∷ []

abbrev includes : World → Context → List ℕ → Reading
includes w c bytes = valued (include w c form.Include (means.text w c bytes))

includes_is : (w : World) (c : Context) (s k e : ℕ) (bytes : List ℕ) →
    Reads w c (roll-Expr (Expr-F.Prefix (from_to s e) (prefix.Include form.Include) (text k e bytes))) (includes w c bytes)
includes_is w c s k e bytes = record {
  is = reading_rolled w c (Expr-F.Prefix (from_to s e) (prefix.Include form.Include) (text k e bytes))
      ∙ (λ i. valued (include w c form.Include ((text_is w c k e bytes).is i)));
}

module _ (m_path b_path : String Global) (m_is : string_bytes m_path ≡ codes "m.php") (b_is : string_bytes b_path ≡ codes "b.php") where
  abbrev main_file : File
  main_file = file m_path 6 40 main_statements

  abbrev other_file : File
  other_file = file b_path 6 29 other_statements

  abbrev two_files : Program
  two_files = record { files = main_file ∷ other_file ∷ [] }

  main_includes : included main_file ≡ codes "b.php" ∷ []
  unfolding includes_in part
  main_includes = simp (trees, m_is)

  other_includes : included other_file ≡ []
  unfolding includes_in part
  other_includes = simp (trees, b_is)

  -- the main file's wave leads to the other file, and that one's to none
  second_wave : next_wave (main_file ∷ []) (main_file ∷ []) ≡ codes "b.php" ∷ []
  unfolding includes_in part
  second_wave = simp (trees, m_is)

  third_wave : next_wave (main_file ∷ other_file ∷ []) (other_file ∷ []) ≡ []
  unfolding includes_in part
  third_wave = simp (trees, m_is, b_is)

  abbrev main_means : World → Context → List (Means Way)
  main_means w c = means.echoes w c (means.int w c 1 ∷ []) ∷ means.does w c (includes w c (codes "b.php"))
      ∷ means.echoes w c (means.call w c (codes "h") [] ∷ []) ∷ []

  main_is : (w : World) (c : Context) → AllDone w c main_statements (main_means w c)
  main_is w c = and_done w c (echo_is w c 6 13 (int_is w c 11 12 1))
      (and_done w c (does_is w c 14 30 (includes_is w c 14 22 29 (codes "b.php")))
      (and_done w c (echo_is w c 31 40 (call_is w c 36 39 (codes "h") (none_read w c))) (none_done w c)))

  abbrev five_means : World → Context → List (Means Way)
  five_means w c = means.returns w c (means.int w c 5) ∷ []

  five_is : (w : World) (c : Context) → AllDone w c five_body (five_means w c)
  five_is w c = and_done w c (returns_is w c 19 28 (int_is w c 26 27 5)) (none_done w c)

  other_is : (w : World) (c : Context) → AllDone w c other_statements (means.declares w c (codes "h") 6 ∷ [])
  other_is w c = and_done w c (declares_is w c 6 29 15 (codes "h") [] five_body) (none_done w c)

  abbrev two_codes : Codes
  two_codes = record {
    paths = codes "m.php" ∷ codes "b.php" ∷ [];
    classes = [];
    codes = placed_at 1 6 (a_body five None false) ∷ [];
    statics = [];
  }

  two_files_codes : codes_of two_files ≡ two_codes
  unfolding declarations_in
  two_files_codes = simp (trees, m_is, b_is)

  two_files_declare : all_declarations two_files ≡ (1, declaration.a_function five) ∷ []
  unfolding declarations_in
  two_files_declare = simp trees

  abbrev two_meanings : (World → Context → List (Means Way)) → (World → Context → List (Means Way)) → (World → Context → List (Means Way)) → Meanings
  two_meanings m k f = record {
    files = (λ w. entering two_codes 0 main_statements (λ c. m w c)) ∷ (λ w. entering two_codes 1 other_statements (λ c. k w c)) ∷ [];
    routines = a_function (λ w. parameters w (in_body two_codes 1 None) five)
        (λ w. bind (block (f w (in_body two_codes 1 None))) (λ way. give (result_of way))) ∷ [];
  }

  two_files_meanings : meanings_of two_files.files two_codes ≡ two_meanings main_means (λ w c. means.declares w c (codes "h") 6 ∷ []) five_means
  unfolding shown-the_row-Function-1 shown-the_row-Class-3 shown hidden out roll
  two_files_meanings = λ i. two_meanings (λ w c. (main_is w c).is i) (λ w c. (other_is w c).is i) (λ w c. (five_is w c).is i)

  -- a unit for each file, and one for the call
  two_files_print : php two_files 3 ≡ record { output = codes "15"; end = Done }
  unfolding out-Statement roll-Statement shown-the_row-Function-1 shown-the_row-Class-3 shown hidden out roll digits all_builtins
  two_files_print = php_is two_files two_files_codes two_files_meanings 3 ∙ refl

  two_files_call : calls two_files 3 ≡ 1 ∷ []
  unfolding out-Statement roll-Statement shown-the_row-Function-1 shown-the_row-Class-3 shown hidden out roll digits all_builtins
  two_files_call = calls_are two_files two_files_codes two_files_declare two_files_meanings 3 ∙ refl

-- ---- paths

-- in lib/named.php `__DIR__ . '/stack.php'`, and in main.php `'lib/named.php'`
path_behind_directory : path_named (codes "lib") (a_directory_path (codes "/stack.php")) ≡ Some (codes "lib/stack.php")
path_behind_directory = refl

path_in_a_folder : path_named (codes ".") (a_text (codes "lib/named.php")) ≡ Some (codes "lib/named.php")
path_in_a_folder = refl

path_from_the_root : path_named (codes "lib") (a_text (codes "/a/../b.php")) ≡ Some (codes "/b.php")
path_from_the_root = refl

-- ---- waves

-- a path is taken once, and not if it is known
paths_are_new_once : new_paths (codes "a" ∷ []) (codes "b" ∷ codes "a" ∷ codes "c" ∷ codes "b" ∷ []) ≡ codes "b" ∷ codes "c" ∷ []
paths_are_new_once = refl
