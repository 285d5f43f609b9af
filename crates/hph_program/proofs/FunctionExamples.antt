-- Whole programs with functions: their code, what they print, how they end, which functions they call, and the bound on reductions.
-- PHP 8.2 prints the same.
use Rattle.std.proofs.Common.{◌≡◌, ◌∙◌, ◌+◌, ℕ, List, [], ◌∷◌, refl, codes, false, None, String, Global, pos}
use Rattle.std.specs.Fmt.{digits}
use Rattle.std.specs.String.{string_bytes}
use denote.Hole.Carrier.{out, roll, shown, hidden}
use Rattle.hph_ast.specs.declared.class.Member.TheBlock.{shown-the_row-Function-1, shown-the_row-Class-3}
use Rattle.hph_ast.specs.declared.operator.Binary.TheVariants as b
use Rattle.hph_ast.specs.declared.stmt.Statement.{Statement, roll-Statement, out-Statement}
use Rattle.hph_ast.specs.declared.function.Function.{Function}
use Rattle.hph_ast.specs.declared.program.Program.{Program}
use Rattle.hph_php.specs.declared.fatal.Fatal.TheVariants.{Overflow}
use Rattle.hph_wasm.specs.Outcome.{Done, Stopped}
use Rattle.hph_wasm.specs.Outcome as outcome
use Rattle.hph_php.specs.Answers.{Means, give, bind, Exits, Fails}
use Rattle.hph_php.specs.Codes.{all_builtins}
use Rattle.hph_php.specs.Cost.{nodes, statement_nodes, program_nodes, cost}
use Rattle.hph_php.specs.Declarations.{Codes, Declaration, declarations_in, codes_of, all_declarations, placed_at, site_at, a_body}
use Rattle.hph_php.specs.Declarations as declaration
use Rattle.hph_php.specs.World.{World, Context}
use Rattle.hph_php.specs.Operations.{variable}
use Rattle.hph_php.specs.Statements.{Way, block}
use Rattle.hph_php.specs.Files.{entering}
use Rattle.hph_php.specs.Run.{Meanings, Routine, a_function, meanings_of, parameters, in_body, result_of, php, calls}
use Rattle.hph_program.proofs.Trees.{trees, int, text, variable as var, run_of_two, less, call, set, increment, exit, echo, expression, returned, if_alone, while, static_variable, param, function, declared, file}
use Rattle.hph_program.proofs.Trees as tree
use Rattle.hph_program.proofs.Runs.{php_is, calls_are, int_is, text_is, variable_is, set_is, increment_is, exit_is, does_is, while_is, keeps_is, two_is, less_is, call_is, none_read, and_read, echo_is, returns_is, if_is, declares_is, none_done, and_done, AllDone}
use Rattle.hph_program.proofs.Runs as means

-- what files of these statements mean, with routines
abbrev one_file : Codes → List Statement → (World → Context → List (Means Way)) → List Routine → Meanings
one_file p ss m rs = record { files = (λ w. entering p 0 ss (λ c. m w c)) ∷ []; routines = rs }

abbrev body_routine : Codes → Function → (World → Context → List (Means Way)) → Routine
body_routine p f m = a_function (λ w. parameters w (in_body p 0 None) f) (λ w. bind (block (m w (in_body p 0 None))) (λ way. give (result_of way)))

module _ (path : String Global) where
  abbrev code_of : List declaration.Placed → Codes
  code_of cs = record { paths = string_bytes path ∷ []; classes = []; codes = cs; statics = [] }

  -- ---- `<?php echo 1+2;`

  abbrev sum_statements : List Statement
  sum_statements = echo 6 15 (run_of_two 11 14 b.Add (int 11 12 1) (int 13 14 2) ∷ []) ∷ []

  abbrev sum : Program
  sum = record { files = file path 6 15 sum_statements ∷ [] }

  abbrev sum_means : World → Context → List (Means Way)
  sum_means w c = means.echoes w c (means.two w c b.Add (means.int w c 1) (means.int w c 2) ∷ []) ∷ []

  sum_is : (w : World) (c : Context) → AllDone w c sum_statements (sum_means w c)
  sum_is w c = and_done w c (echo_is w c 6 15 (two_is w c 11 14 b.Add (int_is w c 11 12 1) (int_is w c 13 14 2))) (none_done w c)

  sum_codes : codes_of sum ≡ code_of []
  unfolding declarations_in
  sum_codes = simp trees

  sum_meanings : meanings_of sum.files (code_of []) ≡ one_file (code_of []) sum_statements sum_means []
  sum_meanings = λ i. one_file (code_of []) sum_statements (λ w c. (sum_is w c).is i) []

  sum_prints : php sum 1 ≡ record { output = codes "3"; end = Done }
  unfolding out-Statement roll-Statement shown-the_row-Function-1 shown-the_row-Class-3 shown hidden out roll digits
  sum_prints = php_is sum sum_codes sum_meanings 1 ∙ refl

  -- a unit is needed to enter the file
  sum_needs_a_unit : php sum 0 ≡ record { output = []; end = outcome.More }
  unfolding out-Statement roll-Statement shown-the_row-Function-1 shown-the_row-Class-3 shown hidden out roll digits
  sum_needs_a_unit = php_is sum sum_codes sum_meanings 0 ∙ refl

  -- the file, the statement, the sum and two numbers
  sum_nodes : program_nodes sum ≡ 5
  unfolding nodes statement_nodes
  sum_nodes = simp trees

  -- 4096 * 2 * 6 ^ 2
  sum_cost : cost sum 1 ≡ 294912
  unfolding nodes statement_nodes
  sum_cost = simp trees

  -- ---- an empty file

  abbrev empty : Program
  empty = record { files = file path 0 0 [] ∷ [] }

  empty_prints : php empty 1 ≡ record { output = []; end = Done }
  empty_prints = refl

  -- ---- `<?php echo "x"; exit(300);`

  abbrev exit_statements : List Statement
  exit_statements = echo 6 15 (text 11 14 (codes "x") ∷ []) ∷ expression 16 26 (exit 16 25 (int 21 24 300)) ∷ []

  abbrev exits : Program
  exits = record { files = file path 6 26 exit_statements ∷ [] }

  abbrev exits_means : World → Context → List (Means Way)
  exits_means w c = means.echoes w c (means.text w c (codes "x") ∷ []) ∷ means.does w c (means.exit w c (means.int w c 300)) ∷ []

  exits_is : (w : World) (c : Context) → AllDone w c exit_statements (exits_means w c)
  exits_is w c = and_done w c (echo_is w c 6 15 (text_is w c 11 14 (codes "x")))
      (and_done w c (does_is w c 16 26 (exit_is w c 16 25 (int_is w c 21 24 300))) (none_done w c))

  exits_codes : codes_of exits ≡ code_of []
  unfolding declarations_in
  exits_codes = simp trees

  exits_meanings : meanings_of exits.files (code_of []) ≡ one_file (code_of []) exit_statements exits_means []
  exits_meanings = λ i. one_file (code_of []) exit_statements (λ w c. (exits_is w c).is i) []

  exits_prints : php exits 1 ≡ record { output = codes "x"; end = Stopped (Exits (pos 300)) }
  unfolding out-Statement roll-Statement shown-the_row-Function-1 shown-the_row-Class-3 shown hidden out roll
  exits_prints = php_is exits exits_codes exits_meanings 1 ∙ refl

  -- ---- `<?php $i = 0; while ($i < 3) { echo $i++; }`

  abbrev count_statements : List Statement
  count_statements = expression 6 13 (set 6 12 (var 6 (codes "i")) (int 11 12 0))
      ∷ while 14 43 (less 21 27 (var 21 (codes "i")) (int 26 27 3)) (tree.block 29 43 (
      echo 31 41 (increment 36 40 (var 36 (codes "i")) ∷ []) ∷ []))
      ∷ []

  abbrev counts : Program
  counts = record { files = file path 6 43 count_statements ∷ [] }

  abbrev counts_means : World → Context → List (Means Way)
  counts_means w c = means.does w c (means.set w c (codes "i") (means.int w c 0))
      ∷ means.while w c (means.less w c (variable (codes "i")) (means.int w c 3)) (means.echoes w c (means.increment w c (codes "i") ∷ []) ∷ [])
      ∷ []

  counts_is : (w : World) (c : Context) → AllDone w c count_statements (counts_means w c)
  counts_is w c = and_done w c (does_is w c 6 13 (set_is w c 6 12 (codes "i") (int_is w c 11 12 0)))
      (and_done w c (while_is w c 14 43 29 43 (less_is w c 21 27 (variable_is w c 21 (codes "i")) (int_is w c 26 27 3))
      (and_done w c (echo_is w c 31 41 (increment_is w c 36 40 (codes "i"))) (none_done w c)))
      (none_done w c))

  counts_codes : codes_of counts ≡ code_of []
  unfolding declarations_in
  counts_codes = simp trees

  counts_meanings : meanings_of counts.files (code_of []) ≡ one_file (code_of []) count_statements counts_means []
  counts_meanings = λ i. one_file (code_of []) count_statements (λ w c. (counts_is w c).is i) []

  -- a unit for the file, and one for each of three turns
  counts_to_2 : php counts 4 ≡ record { output = codes "012"; end = Done }
  unfolding out-Statement roll-Statement shown-the_row-Function-1 shown-the_row-Class-3 shown hidden out roll digits
  counts_to_2 = php_is counts counts_codes counts_meanings 4 ∙ refl

  counts_to_1 : php counts 3 ≡ record { output = codes "01"; end = outcome.More }
  unfolding out-Statement roll-Statement shown-the_row-Function-1 shown-the_row-Class-3 shown hidden out roll digits
  counts_to_1 = php_is counts counts_codes counts_meanings 3 ∙ refl

  -- ---- `<?php function fact($n){ if ($n < 2) { return 1; } return $n * fact($n - 1); } echo fact(3);` and its kin

  abbrev fact_body : List Statement
  fact_body =
      if_alone 25 50 (less 29 35 (var 29 (codes "n")) (int 34 35 2)) (tree.block 37 50 (returned 39 48 (int 46 47 1) ∷ []))
      ∷ returned 51 76 (run_of_two 58 75 b.Mul (var 58 (codes "n"))
      (call 63 75 (codes "fact") (run_of_two 68 74 b.Sub (var 68 (codes "n")) (int 73 74 1) ∷ [])))
      ∷ []

  abbrev fact : Function
  fact = function 6 78 15 (codes "fact") (param 20 (codes "n") ∷ []) fact_body

  -- `echo fact(3);` for 3 and other numbers, with so many digits
  abbrev fact_statements : ℕ → ℕ → List Statement
  fact_statements n d = declared fact ∷ echo 79 (91 + d) (call 84 (90 + d) (codes "fact") (int 89 (89 + d) n ∷ []) ∷ []) ∷ []

  abbrev factorial : ℕ → ℕ → Program
  factorial n d = record { files = file path 6 (91 + d) (fact_statements n d) ∷ [] }

  abbrev fact_means : World → Context → List (Means Way)
  fact_means w c =
      means.if_then w c (means.less w c (variable (codes "n")) (means.int w c 2)) (means.returns w c (means.int w c 1) ∷ [])
      ∷ means.returns w c (means.two w c b.Mul (variable (codes "n"))
      (means.call w c (codes "fact") (means.two w c b.Sub (variable (codes "n")) (means.int w c 1) ∷ [])))
      ∷ []

  fact_is : (w : World) (c : Context) → AllDone w c fact_body (fact_means w c)
  fact_is w c = and_done w c
      (if_is w c 25 50 37 50 (less_is w c 29 35 (variable_is w c 29 (codes "n")) (int_is w c 34 35 2))
      (and_done w c (returns_is w c 39 48 (int_is w c 46 47 1)) (none_done w c)))
      (and_done w c (returns_is w c 51 76 (two_is w c 58 75 b.Mul (variable_is w c 58 (codes "n"))
      (call_is w c 63 75 (codes "fact") (and_read w c (two_is w c 68 74 b.Sub (variable_is w c 68 (codes "n")) (int_is w c 73 74 1)) (none_read w c)))))
      (none_done w c))

  abbrev factorial_means : ℕ → World → Context → List (Means Way)
  factorial_means n w c = means.declares w c (codes "fact") 6
      ∷ means.echoes w c (means.call w c (codes "fact") (means.int w c n ∷ []) ∷ []) ∷ []

  factorial_is : (n d : ℕ) (w : World) (c : Context) → AllDone w c (fact_statements n d) (factorial_means n w c)
  factorial_is n d w c = and_done w c (declares_is w c 6 78 15 (codes "fact") (param 20 (codes "n") ∷ []) fact_body)
      (and_done w c (echo_is w c 79 (91 + d) (call_is w c 84 (90 + d) (codes "fact") (and_read w c (int_is w c 89 (89 + d) n) (none_read w c))))
      (none_done w c))

  abbrev fact_code : Codes
  fact_code = code_of (placed_at 0 6 (a_body fact None false) ∷ [])

  -- its code is the body of the function at offset 6
  factorial_codes : (n d : ℕ) → codes_of (factorial n d) ≡ fact_code
  unfolding declarations_in
  factorial_codes n d = simp trees

  factorial_declares : (n d : ℕ) → all_declarations (factorial n d) ≡ (0, declaration.a_function fact) ∷ []
  unfolding declarations_in
  factorial_declares n d = simp trees

  factorial_meanings : (n d : ℕ) →
      meanings_of (factorial n d).files fact_code ≡ one_file fact_code (fact_statements n d) (factorial_means n) (body_routine fact_code fact fact_means ∷ [])
  unfolding shown-the_row-Function-1 shown-the_row-Class-3 shown hidden out roll
  factorial_meanings n d = λ i.
      one_file fact_code (fact_statements n d) (λ w c. (factorial_is n d w c).is i) (body_routine fact_code fact (λ w c. (fact_is w c).is i) ∷ [])

  -- a unit for the file, and one for each of three calls
  factorial_prints : php (factorial 3 1) 4 ≡ record { output = codes "6"; end = Done }
  unfolding out-Statement roll-Statement shown-the_row-Function-1 shown-the_row-Class-3 shown hidden out roll digits all_builtins
  factorial_prints = php_is (factorial 3 1) (factorial_codes 3 1) (factorial_meanings 3 1) 4 ∙ refl

  factorial_of_20 : php (factorial 20 2) 21 ≡ record { output = codes "2432902008176640000"; end = Done }
  unfolding out-Statement roll-Statement shown-the_row-Function-1 shown-the_row-Class-3 shown hidden out roll digits all_builtins
  factorial_of_20 = php_is (factorial 20 2) (factorial_codes 20 2) (factorial_meanings 20 2) 21 ∙ refl

  factorial_of_21 : php (factorial 21 2) 22 ≡ record { output = []; end = Stopped (Fails Overflow) }
  unfolding out-Statement roll-Statement shown-the_row-Function-1 shown-the_row-Class-3 shown hidden out roll digits all_builtins
  factorial_of_21 = php_is (factorial 21 2) (factorial_codes 21 2) (factorial_meanings 21 2) 22 ∙ refl

  -- the function is scope 1
  factorial_calls : calls (factorial 3 1) 4 ≡ 1 ∷ 1 ∷ 1 ∷ []
  unfolding out-Statement roll-Statement shown-the_row-Function-1 shown-the_row-Class-3 shown hidden out roll digits all_builtins
  factorial_calls = calls_are (factorial 3 1) (factorial_codes 3 1) (factorial_declares 3 1) (factorial_meanings 3 1) 4 ∙ refl

  -- with a unit less the last call isn't made
  factorial_calls_fewer : calls (factorial 3 1) 3 ≡ 1 ∷ 1 ∷ []
  unfolding out-Statement roll-Statement shown-the_row-Function-1 shown-the_row-Class-3 shown hidden out roll digits all_builtins
  factorial_calls_fewer = calls_are (factorial 3 1) (factorial_codes 3 1) (factorial_declares 3 1) (factorial_meanings 3 1) 3 ∙ refl

  -- 4096 * 5 * 21 ^ 2, as the program has 20 nodes
  factorial_cost : cost (factorial 3 1) 4 ≡ 9031680
  unfolding nodes statement_nodes
  factorial_cost = simp trees

  -- ---- `<?php function f(){ static $n = 0; $n++; return $n; } f(); echo f();`

  abbrev counter_body : List Statement
  counter_body = static_variable 20 34 27 (codes "n") (int 32 33 0)
      ∷ expression 35 40 (increment 35 39 (var 35 (codes "n")))
      ∷ returned 41 51 (var 48 (codes "n"))
      ∷ []

  abbrev counter : Function
  counter = function 6 53 15 (codes "f") [] counter_body

  abbrev remember_statements : List Statement
  remember_statements = declared counter ∷ expression 54 58 (call 54 57 (codes "f") []) ∷ echo 59 68 (call 64 67 (codes "f") [] ∷ []) ∷ []

  abbrev remembers : Program
  remembers = record { files = file path 6 68 remember_statements ∷ [] }

  abbrev counter_means : World → Context → List (Means Way)
  counter_means w c = means.keeps w c 27 (codes "n") (means.int w c 0)
      ∷ means.does w c (means.increment w c (codes "n")) ∷ means.returns w c (variable (codes "n")) ∷ []

  counter_is : (w : World) (c : Context) → AllDone w c counter_body (counter_means w c)
  counter_is w c = and_done w c (keeps_is w c 20 34 27 (codes "n") (int_is w c 32 33 0))
      (and_done w c (does_is w c 35 40 (increment_is w c 35 39 (codes "n")))
      (and_done w c (returns_is w c 41 51 (variable_is w c 48 (codes "n"))) (none_done w c)))

  abbrev remembers_means : World → Context → List (Means Way)
  remembers_means w c = means.declares w c (codes "f") 6 ∷ means.does w c (means.call w c (codes "f") []) ∷ means.echoes w c (means.call w c (codes "f") [] ∷ []) ∷ []

  remembers_is : (w : World) (c : Context) → AllDone w c remember_statements (remembers_means w c)
  remembers_is w c = and_done w c (declares_is w c 6 53 15 (codes "f") [] counter_body)
      (and_done w c (does_is w c 54 58 (call_is w c 54 57 (codes "f") (none_read w c)))
      (and_done w c (echo_is w c 59 68 (call_is w c 64 67 (codes "f") (none_read w c))) (none_done w c)))

  abbrev counter_code : Codes
  counter_code = record (code_of (placed_at 0 6 (a_body counter None false) ∷ [])) { statics = site_at 0 27 ∷ [] }

  remembers_codes : codes_of remembers ≡ counter_code
  unfolding declarations_in
  remembers_codes = simp trees

  remembers_declares : all_declarations remembers ≡ (0, declaration.a_function counter) ∷ (0, declaration.a_static 27) ∷ []
  unfolding declarations_in
  remembers_declares = simp trees

  remembers_meanings : meanings_of remembers.files counter_code ≡ one_file counter_code remember_statements remembers_means (body_routine counter_code counter counter_means ∷ [])
  unfolding shown-the_row-Function-1 shown-the_row-Class-3 shown hidden out roll
  remembers_meanings = λ i. one_file counter_code remember_statements (λ w c. (remembers_is w c).is i) (body_routine counter_code counter (λ w c. (counter_is w c).is i) ∷ [])

  -- the second call finds what the first left
  remembers_prints : php remembers 3 ≡ record { output = codes "2"; end = Done }
  unfolding out-Statement roll-Statement shown-the_row-Function-1 shown-the_row-Class-3 shown hidden out roll digits all_builtins
  remembers_prints = php_is remembers remembers_codes remembers_meanings 3 ∙ refl

  remembers_calls : calls remembers 3 ≡ 1 ∷ 1 ∷ []
  unfolding out-Statement roll-Statement shown-the_row-Function-1 shown-the_row-Class-3 shown hidden out roll digits all_builtins
  remembers_calls = calls_are remembers remembers_codes remembers_declares remembers_meanings 3 ∙ refl
