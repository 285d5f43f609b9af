-- How the run of a whole program is computed: from its code, its declarations and what they mean, each of which is computed first.
use Rattle.std.specs.Prelude.{◌≡◌, ℕ, suc, ◌+◌, length, pos, List, [], ◌∷◌, map, Some, None, position}
use Rattle.std.specs.List.{filter}
use Rattle.std.proofs.Common.{◌∙◌, refl}
use Rattle.std.specs.Option.{option_map_or}
use Rattle.hph_ast.specs.declared.operator.Binary.{Binary}
use Rattle.hph_ast.specs.declared.operator.Binary.TheVariants as b
use Rattle.hph_ast.specs.declared.operator.Assignment.TheVariants as a
use Rattle.hph_ast.specs.declared.expr.Update.TheVariants as update
use Rattle.hph_ast.specs.declared.expr.Expr.{Expr}
use Rattle.hph_ast.specs.declared.expr.ClassReference.TheOpen.{Expr-F}
use Rattle.hph_ast.specs.declared.function.Param.{Param}
use Rattle.hph_ast.specs.declared.stmt.Statement.{Statement}
use Rattle.hph_ast.specs.declared.class.Member.TheOpen.{Statement-F}
use Rattle.hph_ast.specs.declared.program.Program.{Program}
use Rattle.hph_php.specs.Values.{Int, Str}
use Rattle.hph_php.specs.State.{Name, Site, is_site}
use Rattle.hph_php.specs.Answers.{Means, bind, give, nothing, in_order}
use Rattle.hph_php.specs.Declarations.{Codes, Declaration, codes_of, all_declarations, is_scope, declaration_site, static_number, site_at}
use Rattle.hph_php.specs.World.{World, Context}
use Rattle.hph_php.specs.Targets.{Reading, valued}
use Rattle.hph_php.specs.Calls.{call_named}
use Rattle.hph_php.specs.Operations as o
use Rattle.hph_php.specs.Expressions.{reading, with_form, form_of_run}
use Rattle.hph_php.specs.Statements.{Way, Next, goes_on, block, branches, truth, loop, dropped, return_with, static_variable_with}
use Rattle.hph_php.specs.Executions.{execute, function_statement}
use Rattle.hph_php.specs.Run.{Meanings, meanings_of, run, outcome_of, php, calls, last_state, site_numbered}
use Rattle.hph_php.proofs.Levels.{reading_rolled, statement_rolled, function_rolled}
use Rattle.hph_program.proofs.Trees as tree
use Rattle.hph_program.proofs.Trees.{from_to, name_at}

-- ---- what the nodes of the examples mean, by what their parts mean

pub record Reads (w : World) (c : Context) (x : Expr) (f : Reading) : Type 0 where
  pub is : reading w c x ≡ f

pub record AllRead (w : World) (c : Context) (xs : List Expr) (fs : List Reading) : Type 0 where
  pub is : map (reading w c) xs ≡ fs

pub record Does (w : World) (c : Context) (s : Statement) (m : Means Way) : Type 0 where
  pub is : execute w c s ≡ m

pub record AllDone (w : World) (c : Context) (ss : List Statement) (ms : List (Means Way)) : Type 0 where
  pub is : map (execute w c) ss ≡ ms

module _ (w : World) (c : Context) where
  abbrev pub int : ℕ → Reading
  int n = valued (give (Int (pos n)))

  abbrev pub text : List ℕ → Reading
  text bytes = valued (give (Str bytes))

  abbrev pub two : Binary → Reading → Reading → Reading
  two op f g = with_form w c (form_of_run w c f.form) (valued (bind f.value (λ v. o.run v ((op, g) ∷ []))))

  abbrev pub less : Reading → Reading → Reading
  less f g = valued (o.pair c.class b.Less f g)

  abbrev pub set : Name → Reading → Reading
  set name f = valued (o.assignment c.class a.Set (o.variable name) f)

  abbrev pub increment : Name → Reading
  increment name = valued (o.moved_by c.class update.PostIncrement (o.variable name))

  abbrev pub call : Name → List Reading → Reading
  call name xs = valued (call_named w c name xs)

  pub int_is : (s e n : ℕ) → Reads w c (tree.int s e n) (int n)
  int_is s e n = record { is = reading_rolled w c (Expr-F.Int (from_to s e) n) }

  pub text_is : (s e : ℕ) (bytes : List ℕ) → Reads w c (tree.text s e bytes) (text bytes)
  text_is s e bytes = record { is = reading_rolled w c (Expr-F.Text (from_to s e) bytes) }

  pub variable_is : (s : ℕ) (name : Name) → Reads w c (tree.variable s name) (o.variable name)
  variable_is s name = record { is = reading_rolled w c (Expr-F.Variable (from_to s (s + 1 + length name)) name) }

  pub two_is : (s e : ℕ) (op : Binary) {x y : Expr} {f g : Reading} → Reads w c x f → Reads w c y g → Reads w c (tree.run_of_two s e op x y) (two op f g)
  two_is s e op {x} {y} p q =
      record { is = reading_rolled w c (Expr-F.Run (from_to s e) x ((op, y) ∷ [])) ∙ (λ i. two op (p.is i) (q.is i)) }

  pub less_is : (s e : ℕ) {x y : Expr} {f g : Reading} → Reads w c x f → Reads w c y g → Reads w c (tree.less s e x y) (less f g)
  less_is s e {x} {y} p q = record { is = reading_rolled w c (Expr-F.Pair (from_to s e) b.Less x y) ∙ (λ i. less (p.is i) (q.is i)) }

  pub set_is : (s e : ℕ) (name : Name) {x : Expr} {f : Reading} → Reads w c x f → Reads w c (tree.set s e (tree.variable s name) x) (set name f)
  set_is s e name {x} p = record {
    is = reading_rolled w c (Expr-F.Assign (from_to s e) a.Set (tree.variable s name) x)
        ∙ (λ i. valued (o.assignment c.class a.Set ((variable_is s name).is i) (p.is i)));
  }

  pub increment_is : (s e : ℕ) (name : Name) → Reads w c (tree.increment s e (tree.variable s name)) (increment name)
  increment_is s e name = record {
    is = reading_rolled w c (Expr-F.Update (from_to s e) update.PostIncrement (tree.variable s name))
        ∙ (λ i. valued (o.moved_by c.class update.PostIncrement ((variable_is s name).is i)));
  }

  pub call_is : (s e : ℕ) (name : Name) {xs : List Expr} {fs : List Reading} → AllRead w c xs fs → Reads w c (tree.call s e name xs) (call name fs)
  call_is s e name {xs} p = record { is = reading_rolled w c (Expr-F.Call (from_to s e) name xs) ∙ (λ i. call name (p.is i)) }

  abbrev pub exit : Reading → Reading
  exit f = valued (bind f.value o.exit_with)

  pub exit_is : (s e : ℕ) {x : Expr} {f : Reading} → Reads w c x f → Reads w c (tree.exit s e x) (exit f)
  exit_is s e {x} p = record { is = reading_rolled w c (Expr-F.ExitWith (from_to s e) x) ∙ (λ i. exit (p.is i)) }

  pub none_read : AllRead w c [] []
  none_read = record { is = refl }

  pub and_read : {x : Expr} {xs : List Expr} {f : Reading} {fs : List Reading} → Reads w c x f → AllRead w c xs fs → AllRead w c (x ∷ xs) (f ∷ fs)
  and_read p q = record { is = λ i. p.is i ∷ q.is i }

  -- ---- statements

  abbrev pub echoes : List Reading → Means Way
  echoes xs = goes_on (in_order (map (λ (x : Reading). o.echo x.value) xs))

  abbrev pub does : Reading → Means Way
  does x = goes_on (dropped x.value)

  abbrev pub returns : Reading → Means Way
  returns x = return_with (Some x.value)

  abbrev pub if_then : Reading → List (Means Way) → Means Way
  if_then x ms = branches ((x.value, block ms) ∷ []) (give Next)

  abbrev pub while : Reading → List (Means Way) → Means Way
  while x ms = loop (truth x.value) nothing (block ms)

  abbrev pub declares : Name → ℕ → Means Way
  declares name offset = goes_on (function_statement w c (record { name = name; offset = offset }))

  pub echo_is : (s e : ℕ) {x : Expr} {f : Reading} → Reads w c x f → Does w c (tree.echo s e (x ∷ [])) (echoes (f ∷ []))
  echo_is s e {x} p = record { is = statement_rolled w c (Statement-F.Echo (from_to s e) (x ∷ [])) ∙ (λ i. echoes (p.is i ∷ [])) }

  pub does_is : (s e : ℕ) {x : Expr} {f : Reading} → Reads w c x f → Does w c (tree.expression s e x) (does f)
  does_is s e {x} p = record { is = statement_rolled w c (Statement-F.Expression (from_to s e) x) ∙ (λ i. does (p.is i)) }

  pub returns_is : (s e : ℕ) {x : Expr} {f : Reading} → Reads w c x f → Does w c (tree.returned s e x) (returns f)
  returns_is s e {x} p = record { is = statement_rolled w c (Statement-F.Return (from_to s e) (Some x)) ∙ (λ i. returns (p.is i)) }

  pub block_is : (s e : ℕ) {ss : List Statement} {ms : List (Means Way)} → AllDone w c ss ms → Does w c (tree.block s e ss) (block ms)
  block_is s e {ss} p = record { is = statement_rolled w c (Statement-F.Block (from_to s e) ss) ∙ (λ i. block (p.is i)) }

  pub if_is : (s e k l : ℕ) {x : Expr} {f : Reading} {ss : List Statement} {ms : List (Means Way)} → Reads w c x f → AllDone w c ss ms →
      Does w c (tree.if_alone s e x (tree.block k l ss)) (if_then f ms)
  if_is s e k l {x} {f} {ss} p q = record {
    is = statement_rolled w c (Statement-F.If (from_to s e) x (tree.block k l ss) [] None)
        ∙ (λ i. branches (((p.is i).value, (block_is k l q).is i) ∷ []) (give Next));
  }

  pub while_is : (s e k l : ℕ) {x : Expr} {f : Reading} {ss : List Statement} {ms : List (Means Way)} → Reads w c x f → AllDone w c ss ms →
      Does w c (tree.while s e x (tree.block k l ss)) (while f ms)
  while_is s e k l {x} {f} {ss} p q = record {
    is = statement_rolled w c (Statement-F.While (from_to s e) x (tree.block k l ss))
        ∙ (λ i. loop (truth (p.is i).value) nothing ((block_is k l q).is i));
  }

  pub declares_is : (s e k : ℕ) (name : Name) (ps : List Param) (ss : List Statement) →
      Does w c (tree.declared (tree.function s e k name ps ss)) (declares name s)
  declares_is s e k name ps ss = record {
    is = statement_rolled w c (Statement-F.Function (tree.function s e k name ps ss))
        ∙ (λ i. goes_on (function_statement w c (function_rolled w c (tree.function_layer s e k name ps ss) i)));
  }

  abbrev pub keeps : ℕ → Name → Reading → Means Way
  keeps offset name x = goes_on (in_order (static_variable_with (static_number c.program (site_at c.file offset)) name (Some x.value) ∷ []))

  pub keeps_is : (s e k : ℕ) (name : Name) {x : Expr} {f : Reading} → Reads w c x f → Does w c (tree.static_variable s e k name x) (keeps k name f)
  keeps_is s e k name {x} p = record {
    is = statement_rolled w c (Statement-F.Static (from_to s e) (record { name = record { start = k; end = k + 1 + length name; spelled = name }; value = Some x } ∷ []))
        ∙ (λ i. keeps k name (p.is i));
  }

  pub none_done : AllDone w c [] []
  none_done = record { is = refl }

  pub and_done : {s : Statement} {ss : List Statement} {m : Means Way} {ms : List (Means Way)} →
      Does w c s m → AllDone w c ss ms → AllDone w c (s ∷ ss) (m ∷ ms)
  and_done p q = record { is = λ i. p.is i ∷ q.is i }

-- ---- runs

abbrev pub scope_by : List (ℕ × Declaration) → Site → ℕ
scope_by ds site = option_map_or suc (position (λ d. is_site site (declaration_site d)) (filter (λ d. is_scope d.1) ds)) 0

abbrev pub calls_by : List (ℕ × Declaration) → Codes → Meanings → ℕ → List ℕ
calls_by ds codes meanings n =
    map (λ number. option_map_or (scope_by ds) (site_numbered codes number) 0) (last_state (run meanings n)).called

module _ (p : Program) {codes : Codes} {meanings : Meanings} where
  pub php_is : codes_of p ≡ codes → meanings_of p.files codes ≡ meanings → (n : ℕ) → php p n ≡ outcome_of (run meanings n)
  php_is cs ms n = (λ i. outcome_of (run (meanings_of p.files (cs i)) n)) ∙ (λ i. outcome_of (run (ms i) n))

  pub calls_are : {ds : List (ℕ × Declaration)} → codes_of p ≡ codes → all_declarations p ≡ ds → meanings_of p.files codes ≡ meanings → (n : ℕ) →
      calls p n ≡ calls_by ds codes meanings n
  calls_are {ds} cs es ms n = (λ i. calls_by (es i) (cs i) (meanings_of p.files (cs i)) n) ∙ (λ i. calls_by ds codes (ms i) n)
