-- Small programs and what they print, as PHP 8.2 does.
use Rattle.std.proofs.Common.{◌≡◌, ℕ, List, [], ◌∷◌, refl, codes, ◌∙◌, false, Some, None, String, Global, pos}
use denote.Hole.Carrier.{out, roll, shown, hidden}
use Rattle.hph_ast.specs.declared.class.Member.TheBlock.{shown-the_row-Function-1, shown-the_row-Class-3}
use Rattle.hph_php.specs.Codes.{all_builtins}
use Rattle.std.specs.Prelude.{map}
use Rattle.hph_ast.specs.declared.function.Param.{Param}
use Rattle.hph_ast.specs.declared.function.Function.{Function, roll-Function}
use Rattle.hph_php.specs.Calls.{call_named}
use Rattle.hph_php.specs.Executions.{function_statement}
use Rattle.hph_php.specs.Statements.{return_with}
use Rattle.hph_php.specs.Run.{Routine, a_function, parameters, in_body, result_of}
use Rattle.hph_php.proofs.Levels.{function_rolled}
use Rattle.hph_ast.specs.declared.token.At.{At}
use Rattle.hph_ast.specs.declared.operator.Binary.{Binary}
use Rattle.hph_ast.specs.declared.operator.Binary.TheVariants as b
use Rattle.hph_ast.specs.declared.operator.Assignment.TheVariants as a
use Rattle.hph_ast.specs.declared.expr.Update.TheVariants as update
use Rattle.hph_ast.specs.declared.expr.Expr.{Expr, roll-Expr}
use Rattle.hph_ast.specs.declared.stmt.Statement.{Statement, roll-Statement, out-Statement}
use Rattle.hph_ast.specs.declared.expr.ClassReference.TheOpen.{Expr-F}
use Rattle.hph_ast.specs.declared.class.Member.TheOpen.{Statement-F}
use Rattle.hph_ast.specs.declared.program.File.{File}
use Rattle.std.specs.Fmt.{digits}
use Rattle.hph_php.specs.Values.{Int, Str}
use Rattle.hph_php.specs.Includes.{include}
use Rattle.hph_ast.specs.declared.operator.Prefix.TheVariants as prefix
use Rattle.hph_ast.specs.declared.operator.IncludeForm.TheVariants as form
use Rattle.hph_wasm.specs.Outcome as outcome
use Rattle.hph_wasm.specs.Outcome.{Outcome, Done}
use Rattle.hph_php.specs.Answers.{Means, Stop, bind, give, in_order}
use Rattle.hph_php.specs.Targets.{Reading, valued}
use Rattle.hph_php.specs.World.{World, Context}
use Rattle.hph_php.specs.Declarations.{Codes, Placed, a_body}
use Rattle.hph_php.specs.Expressions.{reading}
use Rattle.hph_php.specs.Operations.{variable, echo}
use Rattle.hph_php.specs.Expressions as x
use Rattle.hph_php.specs.Operations as o
use Rattle.hph_php.specs.Statements.{Way, goes_on, block, loop, truth, dropped}
use Rattle.hph_php.specs.Answers.{nothing}
use Rattle.hph_php.specs.Executions.{execute}
use Rattle.hph_php.specs.Files.{entering}
use Rattle.hph_php.specs.Run as run
use Rattle.hph_php.specs.Run.{Meanings, meanings_of, outcome_of}
use Rattle.hph_php.proofs.Levels.{reading_rolled, statement_rolled}

-- ---- trees

abbrev pub at0 : At
at0 = record { start = 0; end = 1; site = 0 }

abbrev pub int : ℕ → Expr
int n = roll-Expr (Expr-F.Int at0 n)

abbrev pub var : List ℕ → Expr
var name = roll-Expr (Expr-F.Variable at0 name)

abbrev two : Binary → Expr → Expr → Expr
two op l r = roll-Expr (Expr-F.Run at0 l ((op, r) ∷ []))

abbrev less : Expr → Expr → Expr
less l r = roll-Expr (Expr-F.Pair at0 b.Less l r)

abbrev pub shows : Expr → Statement
shows e = roll-Statement (Statement-F.Echo at0 (e ∷ []))

abbrev pub does : Expr → Statement
does e = roll-Statement (Statement-F.Expression at0 e)

abbrev pub sets : List ℕ → Expr → Expr
sets name e = roll-Expr (Expr-F.Assign at0 a.Set (var name) e)

abbrev bumps : List ℕ → Expr
bumps name = roll-Expr (Expr-F.Update at0 update.PostIncrement (var name))

abbrev while_ : Expr → List Statement → Statement
while_ e ss = roll-Statement (Statement-F.While at0 e (roll-Statement (Statement-F.Block at0 ss)))

abbrev calls : List ℕ → List Expr → Expr
calls name xs = roll-Expr (Expr-F.Call at0 name xs)

abbrev pub gives : Expr → Statement
gives e = roll-Statement (Statement-F.Return at0 (Some e))

-- `$x`
abbrev param_x : Param
param_x = record { at = at0; ty = None; by_reference = false; name = record { start = 11; end = 13; spelled = codes "x" }; default = None }

-- `function name($x) { .. }`
abbrev function_of_x : List ℕ → List Statement → Function
function_of_x name ss = roll-Function (record {
  at = record { start = 7; end = 8; site = 0 };
  name = record { start = 9; end = 10; spelled = name };
  params = param_x ∷ [];
  result = None;
  body = ss;
})

abbrev declares : Function → Statement
declares f = roll-Statement (Statement-F.Function f)

-- ---- what they mean

pub record Reads (e : Expr) : Type 0 where
  pub as_ : World → Context → Reading
  pub is : (w : World) (c : Context) → reading w c e ≡ as_ w c

pub record AllRead (es : List Expr) : Type 0 where
  pub as_ : World → Context → List Reading
  pub is : (w : World) (c : Context) → map (reading w c) es ≡ as_ w c

pub record Does (s : Statement) : Type 0 where
  pub as_ : World → Context → Means Way
  pub is : (w : World) (c : Context) → execute w c s ≡ as_ w c

pub record AllDone (ss : List Statement) : Type 0 where
  pub as_ : World → Context → List (Means Way)
  pub is : (w : World) (c : Context) → map (execute w c) ss ≡ as_ w c

abbrev pub int_reads : (n : ℕ) → Reads (int n)
int_reads n = record { as_ = λ w c. valued (give (Int (pos n))); is = λ w c. reading_rolled w c (Expr-F.Int at0 n) }

abbrev pub var_reads : (name : List ℕ) → Reads (var name)
var_reads name = record { as_ = λ w c. variable name; is = λ w c. reading_rolled w c (Expr-F.Variable at0 name) }

abbrev two_reads : (op : Binary) {l r : Expr} → Reads l → Reads r → Reads (two op l r)
two_reads op {l} {r} p q = record {
  as_ = λ w c. of_two w c (p.as_ w c) (q.as_ w c);
  is = λ w c. reading_rolled w c (Expr-F.Run at0 l ((op, r) ∷ [])) ∙ (λ i. of_two w c (p.is w c i) (q.is w c i));
}
  where
    of_two : World → Context → Reading → Reading → Reading
    of_two w c f g = x.with_form w c (x.form_of_run w c f.form) (valued (bind f.value (λ v. o.run v ((op, g) ∷ []))))

abbrev less_reads : {l r : Expr} → Reads l → Reads r → Reads (less l r)
less_reads {l} {r} p q = record {
  as_ = λ w c. valued (o.pair c.class b.Less (p.as_ w c) (q.as_ w c));
  is = λ w c. reading_rolled w c (Expr-F.Pair at0 b.Less l r) ∙ (λ i. valued (o.pair c.class b.Less (p.is w c i) (q.is w c i)));
}

abbrev pub sets_reads : (name : List ℕ) {e : Expr} → Reads e → Reads (sets name e)
sets_reads name {e} p = record {
  as_ = λ w c. valued (o.assignment c.class a.Set (variable name) (p.as_ w c));
  is = λ w c. reading_rolled w c (Expr-F.Assign at0 a.Set (var name) e)
      ∙ (λ i. valued (o.assignment c.class a.Set ((var_reads name).is w c i) (p.is w c i)));
}

abbrev bumps_reads : (name : List ℕ) → Reads (bumps name)
bumps_reads name = record {
  as_ = λ w c. valued (o.moved_by c.class update.PostIncrement (variable name));
  is = λ w c. reading_rolled w c (Expr-F.Update at0 update.PostIncrement (var name))
      ∙ (λ i. valued (o.moved_by c.class update.PostIncrement ((var_reads name).is w c i)));
}

abbrev calls_reads : (name : List ℕ) {e : Expr} → Reads e → Reads (calls name (e ∷ []))
calls_reads name {e} p = record {
  as_ = λ w c. valued (call_named w c name (p.as_ w c ∷ []));
  is = λ w c. reading_rolled w c (Expr-F.Call at0 name (e ∷ [])) ∙ (λ i. valued (call_named w c name (p.is w c i ∷ [])));
}

abbrev pub shows_does : {e : Expr} → Reads e → Does (shows e)
shows_does {e} p = record {
  as_ = λ w c. goes_on (in_order (echo (p.as_ w c).value ∷ []));
  is = λ w c. statement_rolled w c (Statement-F.Echo at0 (e ∷ [])) ∙ (λ i. goes_on (in_order (echo (p.is w c i).value ∷ [])));
}

abbrev pub does_does : {e : Expr} → Reads e → Does (does e)
does_does {e} p = record {
  as_ = λ w c. goes_on (dropped (p.as_ w c).value);
  is = λ w c. statement_rolled w c (Statement-F.Expression at0 e) ∙ (λ i. goes_on (dropped (p.is w c i).value));
}

abbrev pub gives_does : {e : Expr} → Reads e → Does (gives e)
gives_does {e} p = record {
  as_ = λ w c. return_with (Some (p.as_ w c).value);
  is = λ w c. statement_rolled w c (Statement-F.Return at0 (Some e)) ∙ (λ i. return_with (Some (p.is w c i).value));
}

abbrev pub none_done : AllDone []
none_done = record { as_ = λ w c. []; is = λ w c. refl }

abbrev pub and_done : {s : Statement} {ss : List Statement} → Does s → AllDone ss → AllDone (s ∷ ss)
and_done p q = record { as_ = λ w c. p.as_ w c ∷ q.as_ w c; is = λ w c. (λ i. p.is w c i ∷ q.is w c i) }

abbrev while_does : {e : Expr} {ss : List Statement} → Reads e → AllDone ss → Does (while_ e ss)
while_does {e} {ss} p q = record {
  as_ = λ w c. loop (truth (p.as_ w c).value) nothing (block (q.as_ w c));
  is = λ w c. statement_rolled w c (Statement-F.While at0 e (roll-Statement (Statement-F.Block at0 ss)))
      ∙ (λ i. loop (truth (p.is w c i).value) nothing (statement_rolled w c (Statement-F.Block at0 ss) i))
      ∙ (λ i. loop (truth (p.as_ w c).value) nothing (block (q.is w c i)));
}

-- the declaration at an offset was made when the file was entered
abbrev declares_does : (name : List ℕ) (ss : List Statement) → Does (declares (function_of_x name ss))
declares_does name ss = record {
  as_ = λ w c. goes_on (function_statement w c (record { name = name; offset = 7 }));
  is = λ w c. statement_rolled w c (Statement-F.Function (function_of_x name ss))
      ∙ (λ i. goes_on (function_statement w c (function_rolled w c (record {
        at = record { start = 7; end = 8; site = 0 };
        name = record { start = 9; end = 10; spelled = name };
        params = param_x ∷ [];
        result = None;
        body = ss;
      }) i)));
}

-- ---- programs of one file

module _ (path : String Global) where
  abbrev pub file : List Statement → File
  file ss = record { path = path; bytes = []; tokens = []; tree = record { at = at0; statements = ss } }

  abbrev program : List Statement → List Placed → Codes
  program ss cs = record { paths = codes "m.php" ∷ []; classes = []; codes = cs; statics = [] }

  abbrev prints : List Statement → List Placed → ℕ → Outcome Stop
  prints ss cs n = outcome_of (run.run (meanings_of (file ss ∷ []) (program ss cs)) n)

  abbrev meaning : List Statement → List Placed → (World → Context → List (Means Way)) → List Routine → Meanings
  meaning ss cs m rs = record { files = (λ w. entering (program ss cs) 0 ss (λ c. m w c)) ∷ []; routines = rs }

  by_meaning : {ss : List Statement} (d : AllDone ss) (n : ℕ) → prints ss [] n ≡ outcome_of (run.run (meaning ss [] d.as_ []) n)
  by_meaning {ss} d n = λ i. outcome_of (run.run (meaning ss [] (λ w c. d.is w c i) []) n)

  -- `echo 1 + 2;`
  sum_done : AllDone (shows (two b.Add (int 1) (int 2)) ∷ [])
  sum_done = and_done (shows_does (two_reads b.Add (int_reads 1) (int_reads 2))) none_done

  prints_sum : (prints (shows (two b.Add (int 1) (int 2)) ∷ []) [] 1 ≡ record { output = codes "3"; end = Done })
      × (prints (shows (two b.Add (int 1) (int 2)) ∷ []) [] 0 ≡ record { output = []; end = outcome.More })
  unfolding sum_done out-Statement roll-Statement out roll digits
  prints_sum = (by_meaning sum_done 1 ∙ refl, by_meaning sum_done 0 ∙ refl)

  -- `$i = 0; while ($i < 3) { echo $i++; }` takes a unit for the file and one for each of three turns
  abbrev counting : List Statement
  counting = does (sets (codes "i") (int 0)) ∷ while_ (less (var (codes "i")) (int 3)) (shows (bumps (codes "i")) ∷ []) ∷ []

  counting_done : AllDone counting
  counting_done = and_done (does_does (sets_reads (codes "i") (int_reads 0)))
      (and_done (while_does (less_reads (var_reads (codes "i")) (int_reads 3))
      (and_done (shows_does (bumps_reads (codes "i"))) none_done)) none_done)

  prints_count : (prints counting [] 4 ≡ record { output = codes "012"; end = Done })
      × (prints counting [] 3 ≡ record { output = codes "01"; end = outcome.More })
  unfolding counting_done out-Statement roll-Statement out roll digits
  prints_count = (by_meaning counting_done 4 ∙ refl, by_meaning counting_done 3 ∙ refl)

  -- ---- programs with a function

  abbrev function_code : List ℕ → List Statement → List Placed
  function_code name body = record { site = record { file = 0; offset = 7 }; code = a_body (function_of_x name body) None false } ∷ []

  -- a body in its own context
  abbrev body_routine : Codes → List ℕ → List Statement → (World → Context → List (Means Way)) → Routine
  body_routine p name body m = a_function (λ w. parameters w (in_body p 0 None) (function_of_x name body))
      (λ w. bind (block (m w (in_body p 0 None))) (λ way. give (result_of way)))

  with_function : {ss : List Statement} (name : List ℕ) {body : List Statement} (d : AllDone ss) (e : AllDone body) (n : ℕ) →
      prints ss (function_code name body) n
      ≡ outcome_of (run.run (meaning ss (function_code name body) d.as_ (body_routine (program ss (function_code name body)) name body e.as_ ∷ [])) n)
  unfolding out roll
  with_function {ss} name {body} d e n = λ i. outcome_of (run.run (meaning ss (function_code name body) (λ w c. d.is w c i) (body_routine (program ss (function_code name body)) name body (λ w c. e.is w c i) ∷ [])) n)

  -- `function f($x) { return $x + 1; } echo f(2);` takes a unit for the file and one for the call
  abbrev succ_body : List Statement
  succ_body = gives (two b.Add (var (codes "x")) (int 1)) ∷ []

  abbrev calling : List Statement
  calling = declares (function_of_x (codes "f") succ_body) ∷ shows (calls (codes "f") (int 2 ∷ [])) ∷ []

  succ_done : AllDone succ_body
  succ_done = and_done (gives_does (two_reads b.Add (var_reads (codes "x")) (int_reads 1))) none_done

  calling_done : AllDone calling
  calling_done = and_done (declares_does (codes "f") succ_body) (and_done (shows_does (calls_reads (codes "f") (int_reads 2))) none_done)

  prints_call : (prints calling (function_code (codes "f") succ_body) 2 ≡ record { output = codes "3"; end = Done })
      × (prints calling (function_code (codes "f") succ_body) 1 ≡ record { output = []; end = outcome.More })
  unfolding succ_done calling_done out-Statement roll-Statement shown-the_row-Function-1 shown-the_row-Class-3 shown hidden out roll digits all_builtins
  prints_call = (with_function (codes "f") calling_done succ_done 2 ∙ refl, with_function (codes "f") calling_done succ_done 1 ∙ refl)

-- ---- a program of two files

abbrev includes : List ℕ → Expr
includes bytes = roll-Expr (Expr-F.Prefix at0 (prefix.Include form.IncludeOnce) (roll-Expr (Expr-F.Text at0 bytes)))

abbrev includes_reads : (bytes : List ℕ) → Reads (includes bytes)
includes_reads bytes = record {
  as_ = λ w c. valued (include w c form.IncludeOnce (valued (give (Str bytes))));
  is = λ w c. reading_rolled w c (Expr-F.Prefix at0 (prefix.Include form.IncludeOnce) (roll-Expr (Expr-F.Text at0 bytes)))
      ∙ (λ i. valued (include w c form.IncludeOnce (reading_rolled w c (Expr-F.Text at0 bytes) i)));
}

module _ (path : String Global) where
  abbrev two_files : Codes
  two_files = record { paths = codes "lib/m.php" ∷ codes "lib/b.php" ∷ []; classes = []; codes = []; statics = [] }

  abbrev both_mean : List Statement → (World → Context → List (Means Way)) → List Statement → (World → Context → List (Means Way)) → Meanings
  both_mean ss m ts k = record {
    files = (λ w. entering two_files 0 ss (λ c. m w c)) ∷ (λ w. entering two_files 1 ts (λ c. k w c)) ∷ [];
    routines = [];
  }

  by_meanings : {ss ts : List Statement} (d : AllDone ss) (e : AllDone ts) (n : ℕ) →
      outcome_of (run.run (meanings_of (file path ss ∷ file path ts ∷ []) two_files) n)
      ≡ outcome_of (run.run (both_mean ss d.as_ ts e.as_) n)
  by_meanings {ss} {ts} d e n = λ i. outcome_of (run.run (both_mean ss (λ w c. d.is w c i) ts (λ w c. e.is w c i)) n)

  -- in lib/m.php: `include_once 'b.php'; include_once 'b.php'; echo 1;`, and in lib/b.php: `echo 2;`
  abbrev main_file : List Statement
  main_file = does (includes (codes "b.php")) ∷ does (includes (codes "b.php")) ∷ shows (int 1) ∷ []

  abbrev other_file : List Statement
  other_file = shows (int 2) ∷ []

  main_done : AllDone main_file
  main_done = and_done (does_does (includes_reads (codes "b.php")))
      (and_done (does_does (includes_reads (codes "b.php"))) (and_done (shows_does (int_reads 1)) none_done))

  other_done : AllDone other_file
  other_done = and_done (shows_does (int_reads 2)) none_done

  prints_include : outcome_of (run.run (meanings_of (file path main_file ∷ file path other_file ∷ []) two_files) 2)
      ≡ record { output = codes "21"; end = Done }
  unfolding main_done other_done out-Statement roll-Statement out roll digits
  prints_include = by_meanings main_done other_done 2 ∙ refl
