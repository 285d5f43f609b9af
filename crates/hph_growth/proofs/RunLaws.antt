-- Files and runs keep that answers stay: what one more unit changes of a program's output and calls.
use Rattle.std.proofs.Common.{◌≡◌, ◌+◌, ◌-◌, ◌≤◌, ℕ, zero, suc, List, [], ◌∷◌, ◌∙◌, map, refl, sym, ap, subst, arith}
use Rattle.std.specs.Prelude.{Bool, Option, None, Some, slice_get, true, false}
use Rattle.std.specs.Option.{option_map_or}
use Rattle.hph_ast.specs.declared.expr.Expr.{Expr}
use Rattle.hph_ast.specs.declared.function.Function.{Function, out-Function}
use Rattle.hph_ast.specs.declared.function.Param.{Param}
use Rattle.hph_ast.specs.declared.class.Class.{Class, out-Class}
use Rattle.hph_ast.specs.declared.program.File.{File}
use Rattle.hph_ast.specs.declared.program.Program.{Program}
use Rattle.hph_ast.specs.declared.stmt.Statement.{Statement}
use Rattle.hph_php.specs.Values.{Value, Null}
use Rattle.hph_php.specs.State.{State, Name, empty_state, enter}
use Rattle.hph_php.specs.Answers.{Means, Answer, Gets, Ends, More, give, first, change_heap}
use Rattle.hph_php.specs.Declarations.{Codes, Code, a_body, a_value, initial_values, Placed, codes_of, numbered_from, site_at, code_number}
use Rattle.hph_php.specs.World.{World, Context, Receiver, a_class, Argument}
use Rattle.hph_php.specs.Expressions.{evaluate}
use Rattle.hph_php.specs.Statements.{Way, Next, lacking}
use Rattle.hph_php.specs.Executions.{execute}
use Rattle.hph_php.specs.Files.{make_functions, make_class, make_classes, is_ready, is_made, flags_after, kind_at, at_top, top_statements, top_functions, top_classes, top_level, run_file}
use Rattle.hph_php.specs.Run.{in_body, in_class, parameter, result_of, body_value, each_initial, Routine, routine_in, Meanings, meanings_of, routine_numbered, file_meaning, call_routine, value_routine, initials_routine, constants_alone, world_of, world_at, run, answer, outcome_of, php, last_state, calls, scope_called}
use Rattle.std.proofs.lemmas.List.{map-append}
use Rattle.hph_wasm.specs.Outcome as outcome
use Rattle.hph_wasm.specs.Outcome.{IsPrefix, IsOver}
use Rattle.hph_wasm.specs.Agrees.{IsRun}
use Rattle.hph_wasm.specs.Run.{IsEntering}
use Rattle.hph_growth.specs.Growth.{Before, Stays, Grows, WorldGrows}
use Rattle.hph_growth.proofs.GrowthLaws.{EachGrows, none, one_more, before_itself, give_grows, nothing_grows, bind_grows, first_grows, by_state_grows, spend_grows, lacking_grows, if_grows}
use Rattle.hph_growth.proofs.StateLaws.{change_heap_grows}
use Rattle.hph_growth.proofs.Worlds.{Worlds, earlier, later, between}
use Rattle.hph_growth.proofs.CallLaws.{ParametersGrow, no_parameter, one_parameter, run_body_grows, frame_of_grows}
use Rattle.hph_growth.proofs.ExpressionLaws.{evaluate_grows}
use Rattle.hph_growth.proofs.ExecutionLaws.{declare_function_grows, declare_class_at_grows, value_grows, execute_grows, executed_grow, execute_all_grows}
use Rattle.hph_growth.proofs.StatementLaws.{both_grows}
use Rattle.hph_ast.specs.declared.stmt.Statement.{out-Statement}

-- ---- files

functions_grow : (program : Codes) (file : ℕ) (fs : List Function) → Grows (make_functions program file fs) (make_functions program file fs)
functions_grow program file [] = nothing_grows
functions_grow program file (f ∷ fs) = first_grows
    (declare_function_grows (out-Function f).name.spelled (code_number program (site_at file (out-Function f).at.start)))
    (functions_grow program file fs)

class_grows : (program : Codes) (file : ℕ) (c : Class) → Grows (make_class program file c) (make_class program file c)
class_grows program file c = by_state_grows (λ st. if_grows (is_ready c st.core.heap)
    (first_grows (declare_class_at_grows program (site_at file (out-Class c).at.start)) (give_grows true))
    (give_grows false))

classes_grow : (program : Codes) (file : ℕ) (cs : List Class) → Grows (make_classes program file cs) (make_classes program file cs)
classes_grow program file [] = give_grows []
classes_grow program file (c ∷ cs) = bind_grows (class_grows program file c) (λ made.
    bind_grows (classes_grow program file cs) (λ more. give_grows (made ∷ more)))

top_grows : (flags : List Bool) (ss : List Statement) {ms laters : List (Means Way)} → EachGrows ms laters →
    Grows (at_top flags (top_statements ss ms)) (at_top flags (top_statements ss laters))
top_grows flags [] ps = give_grows Next
top_grows flags (s ∷ ss) none = give_grows Next
top_grows flags (s ∷ ss) (one_more p ps) = if_grows (is_made (kind_at (out-Statement s)) flags)
    (top_grows (flags_after (kind_at (out-Statement s)) flags) ss ps)
    (both_grows p (top_grows (flags_after (kind_at (out-Statement s)) flags) ss ps))

file_grows : (program : Codes) (ws : Worlds) (file : ℕ) (f : File) →
    Grows (run_file program (earlier ws) file f) (run_file program (later ws) file f)
file_grows program ws file f = first_grows (functions_grow program file (top_functions f.tree.statements))
    (bind_grows (classes_grow program file (top_classes f.tree.statements)) (λ made. bind_grows
    (top_grows made f.tree.statements (executed_grow ws (top_level program file) f.tree.statements)) (λ _. nothing_grows)))

-- ---- code

module _ (ws : Worlds) where
  params_grow : (context : Context) (ps : List Param) →
      ParametersGrow (map (parameter (earlier ws) context) ps) (map (parameter (later ws) context) ps)
  params_grow context [] = no_parameter
  params_grow context (p ∷ ps) = one_parameter p.name.spelled (value_grows ws context p.default) (params_grow context ps)

  body_grows : (context : Context) (f : Function) → Grows (body_value (earlier ws) context f) (body_value (later ws) context f)
  body_grows context f = bind_grows (execute_all_grows ws context (out-Function f).body) (λ w. give_grows (result_of w))

  option_value_grows : (context : Context) (o : Option Expr) →
      Grows (option_map_or (evaluate (earlier ws) context) o (give Null)) (option_map_or (evaluate (later ws) context) o (give Null))
  option_value_grows context None = give_grows Null
  option_value_grows context (Some x) = evaluate_grows ws context x

  each_initial_grows : (context : Context) (ps : List (Name × Option Expr)) →
      Grows (each_initial (earlier ws) context ps) (each_initial (later ws) context ps)
  each_initial_grows context [] = give_grows []
  each_initial_grows context (p ∷ ps) = bind_grows (option_value_grows context p.1) (λ v.
      bind_grows (each_initial_grows context ps) (λ rest. give_grows ((p.0, v) ∷ rest)))

-- what runs for a number, in a world and in another that agrees with it
record RoutineHolds (o : Option Routine) : Type 0 where
  called : (ws : Worlds) (number : ℕ) (on : Receiver) (args : List Argument) →
      Grows (call_routine o (earlier ws) number on args) (call_routine o (later ws) number on args)
  value : (ws : Worlds) (number : ℕ) → Grows (value_routine o (earlier ws) number) (value_routine o (later ws) number)
  values : (ws : Worlds) (number : ℕ) → Grows (initials_routine o (earlier ws) number) (initials_routine o (later ws) number)

no_routine : RoutineHolds None
no_routine = record {
  called = λ ws number on args. give_grows Null;
  value = λ ws number. give_grows Null;
  values = λ ws number. give_grows [];
}

routine_holds : (program : Codes) (file : ℕ) (code : Code) → RoutineHolds (Some (routine_in program file code))
routine_holds program file (a_body f class is_static) = record {
  called = λ ws number on args. run_body_grows number on args
      (params_grow ws (in_body program file class) (out-Function f).params) (body_grows ws (in_body program file class) f);
  value = λ ws number. give_grows Null;
  values = λ ws number. give_grows [];
}
routine_holds program file (a_value x class) = record {
  called = λ ws number on args. give_grows Null;
  value = λ ws number. frame_of_grows number (a_class class) (evaluate_grows ws (in_class program file class) x);
  values = λ ws number. give_grows [];
}
routine_holds program file (initial_values properties class) = record {
  called = λ ws number on args. give_grows Null;
  value = λ ws number. give_grows Null;
  values = λ ws number. frame_of_grows number (a_class class) (each_initial_grows ws (in_class program file class) properties);
}

routines_hold : (program : Codes) (cs : List Placed) (n : ℕ) →
    RoutineHolds (slice_get (map (λ (c : Placed). routine_in program c.site.file c.code) cs) n)
routines_hold program [] n = no_routine
routines_hold program (c ∷ cs) zero = routine_holds program c.site.file c.code
routines_hold program (c ∷ cs) (suc n) = routines_hold program cs n

numbered_holds : (files : List File) (program : Codes) (n : ℕ) → RoutineHolds (routine_numbered (meanings_of files program) n)
numbered_holds files program zero = no_routine
numbered_holds files program (suc n) = routines_hold program program.codes n

abbrev FileHolds : Option (World → Means (Unit {0})) → Type 0
FileHolds o = (ws : Worlds) → Grows (file_meaning o (earlier ws)) (file_meaning o (later ws))

files_hold : (program : Codes) (fs : List (ℕ × File)) (n : ℕ) →
    FileHolds (slice_get (map (λ (f : ℕ × File). λ (world : World). run_file program world f.0 f.1) fs) n)
files_hold program [] n ws = nothing_grows
files_hold program (f ∷ fs) zero ws = file_grows program ws f.0 f.1
files_hold program (f ∷ fs) (suc n) ws = files_hold program fs n ws

-- ---- worlds

-- what lacks units is the same however deep it stands
nothing_lacks : {A : Type 0} → Grows {A = A} lacking lacking
nothing_lacks = lacking_grows (λ n st. before_itself st)

alone_grows : {c c' : ℕ → Means Value} → ((n : ℕ) → Grows (c n) (c' n)) →
    WorldGrows (constants_alone c) (constants_alone c')
alone_grows p = record {
  calls = λ code on args. nothing_lacks;
  enters = λ file. nothing_lacks;
  constants = p;
  initial_values = λ code. nothing_lacks;
  all_initials = λ code. nothing_lacks;
}

module _ (meanings : Meanings) (routines : (n : ℕ) → RoutineHolds (routine_numbered meanings n))
    (files : (n : ℕ) → FileHolds (slice_get meanings.files n)) where
  made_grows : {call call' : ℕ → Receiver → List Argument → Means Value} {enter_file enter_file' : ℕ → Means (Unit {0})}
      {constant constant' : ℕ → Means Value} →
      ((code : ℕ) (on : Receiver) (args : List Argument) → Grows (call code on args) (call' code on args)) →
      ((file : ℕ) → Grows (enter_file file) (enter_file' file)) → ((code : ℕ) → Grows (constant code) (constant' code)) →
      WorldGrows (world_of meanings call enter_file constant) (world_of meanings call' enter_file' constant')
  made_grows p q r = record {
    calls = p;
    enters = q;
    constants = r;
    initial_values = λ code. between (alone_grows r)
        (λ w w'. Grows (value_routine (routine_numbered meanings code) w code) (value_routine (routine_numbered meanings code) w' code))
        (λ ws. (routines code).value ws code);
    all_initials = λ code. between (alone_grows r)
        (λ w w'. Grows (initials_routine (routine_numbered meanings code) w code) (initials_routine (routine_numbered meanings code) w' code))
        (λ ws. (routines code).values ws code);
  }

  module _ {w w' : World} (p : WorldGrows w w') where
    calls_in : (code : ℕ) (on : Receiver) (args : List Argument) →
        Grows (call_routine (routine_numbered meanings code) w code on args) (call_routine (routine_numbered meanings code) w' code on args)
    calls_in code on args = between p (λ v v'. Grows (call_routine (routine_numbered meanings code) v code on args)
        (call_routine (routine_numbered meanings code) v' code on args)) (λ ws. (routines code).called ws code on args)

    enters_in : (file : ℕ) → Grows (file_meaning (slice_get meanings.files file) w) (file_meaning (slice_get meanings.files file) w')
    enters_in file = between p (λ v v'. Grows (file_meaning (slice_get meanings.files file) v) (file_meaning (slice_get meanings.files file) v'))
        (files file)

    values_in : (code : ℕ) →
        Grows (value_routine (routine_numbered meanings code) w code) (value_routine (routine_numbered meanings code) w' code)
    values_in code = between p (λ v v'. Grows (value_routine (routine_numbered meanings code) v code)
        (value_routine (routine_numbered meanings code) v' code)) (λ ws. (routines code).value ws code)

  -- what lacks depth comes before any depth
  from_none : (e : ℕ) → WorldGrows (world_at meanings zero) (world_at meanings e)
  from_none zero = made_grows (λ code on args. nothing_lacks) (λ file. nothing_lacks) (λ code. nothing_lacks)
  from_none (suc e) = made_grows
      (λ code on args. lacking_grows (spend_grows (calls_in (from_none e) code on args)).later_comes)
      (λ file. lacking_grows (spend_grows (enters_in (from_none e) file)).later_comes)
      (λ code. lacking_grows (spend_grows (values_in (from_none e) code)).later_comes)

  world_grows : (d e : ℕ) → d ≤ e → WorldGrows (world_at meanings d) (world_at meanings e)
  world_grows zero e h = from_none e
  world_grows (suc d) zero h = absurd (omega (arith, h))
  world_grows (suc d) (suc e) h = made_grows
      (λ code on args. spend_grows (calls_in (world_grows d e (omega (arith, h))) code on args))
      (λ file. spend_grows (enters_in (world_grows d e (omega (arith, h))) file))
      (λ code. spend_grows (values_in (world_grows d e (omega (arith, h))) code))

  run_grows : (d e : ℕ) → d ≤ e → Grows (first (change_heap (enter 0)) ((world_at meanings d).enter 0))
      (first (change_heap (enter 0)) ((world_at meanings e).enter 0))
  run_grows d e h = first_grows (change_heap_grows (enter 0)) ((world_grows d e h).enters 0)

  run_stays : (n extra : ℕ) → Stays extra (run meanings n) (run meanings (n + extra))
  run_stays n extra = (run_grows n (n + extra) (omega arith)).stays n extra empty_state

-- ---- whole programs

answer_stays : (p : Program) (n extra : ℕ) → Stays extra (answer p n) (answer p (n + extra))
answer_stays p n extra = run_stays (meanings_of p.files (codes_of p)) (numbered_holds p.files (codes_of p))
    (files_hold (codes_of p) (numbered_from 0 p.files)) n extra

seen_stays : (extra : ℕ) (a b : Answer (Unit {0})) → IsOver (outcome_of a) → Stays extra a b → outcome_of b ≡ outcome_of a
seen_stays extra (Gets v n st) b over p = ap outcome_of p
seen_stays extra (Ends stop st) b over p = ap outcome_of p
seen_stays extra (More st) b over p = absurd (over refl)

state_stays : (extra : ℕ) (a b : Answer (Unit {0})) → IsOver (outcome_of a) → Stays extra a b → last_state b ≡ last_state a
state_stays extra (Gets v n st) b over p = ap last_state p
state_stays extra (Ends stop st) b over p = ap last_state p
state_stays extra (More st) b over p = absurd (over refl)

state_comes : (extra : ℕ) (a b : Answer (Unit {0})) → Stays extra a b → Before (last_state a) (last_state b)
state_comes extra (Gets v n st) b p = subst (λ x. Before st (last_state x)) (sym p) (before_itself st)
state_comes extra (Ends stop st) b p = subst (λ x. Before st (last_state x)) (sym p) (before_itself st)
state_comes extra (More st) (Gets v n after) p = p
state_comes extra (More st) (Ends stop after) p = p
state_comes extra (More st) (More after) p = p

seen_out : (a : Answer (Unit {0})) → (outcome_of a).output ≡ (last_state a).core.out
seen_out (Gets v n st) = refl
seen_out (Ends stop st) = refl
seen_out (More st) = refl

-- with as many more units as lie between two numbers
between_units : (p : Program) (n k : ℕ) → n ≤ k → Stays (k - n) (answer p n) (answer p k)
between_units p n k h =
    let e : n + (k - n) ≡ k = omega (arith, h) in subst (λ m. Stays (k - n) (answer p n) (answer p m)) e (answer_stays p n (k - n))

pub php_is_run : (p : Program) → IsRun (php p)
php_is_run p = record {
  stays = λ n k over h. seen_stays (k - n) (answer p n) (answer p k) over (between_units p n k h);
  grows = λ n k h. subst (λ l. IsPrefix l (php p k).output) (sym (seen_out (answer p n)))
      (subst (λ l. IsPrefix (last_state (answer p n)).core.out l) (sym (seen_out (answer p k)))
      (state_comes (k - n) (answer p n) (answer p k) (between_units p n k h)).out);
}

mapped_prefix : (f : ℕ → ℕ) (a b : List ℕ) → IsPrefix a b → IsPrefix (map f a) (map f b)
mapped_prefix f a b p = (map f p.0, ap (map f) p.1 ∙ map-append f a p.0)

pub calls_are_calling : (p : Program) → IsEntering (php p) (calls p)
calls_are_calling p = record {
  stays = λ n k over h. ap (λ (st : State). map (scope_called p) st.called)
      (state_stays (k - n) (answer p n) (answer p k) over (between_units p n k h));
  grows = λ n k h. mapped_prefix (scope_called p) (last_state (answer p n)).called (last_state (answer p k)).called
      (state_comes (k - n) (answer p n) (answer p k) (between_units p n k h)).called;
}

-- ---- with no unit

pub no_output : (p : Program) → php p 0 ≡ record { output = []; end = outcome.More }
no_output p = refl

pub no_calls : (p : Program) → calls p 0 ≡ []
no_calls p = refl

-- ---- parts of programs

pub worlds_grow : (p : Program) (d e : ℕ) → d ≤ e →
    WorldGrows (world_at (meanings_of p.files (codes_of p)) d) (world_at (meanings_of p.files (codes_of p)) e)
worlds_grow p d e h = world_grows (meanings_of p.files (codes_of p)) (numbered_holds p.files (codes_of p))
    (files_hold (codes_of p) (numbered_from 0 p.files)) d e h

pub expressions_grow : (w later : World) → WorldGrows w later → (context : Context) (x : Expr) →
    Grows (evaluate w context x) (evaluate later context x)
expressions_grow w later p context x =
    between p (λ v v'. Grows (evaluate v context x) (evaluate v' context x)) (λ ws. evaluate_grows ws context x)

pub statements_grow : (w later : World) → WorldGrows w later → (context : Context) (x : Statement) →
    Grows (execute w context x) (execute later context x)
statements_grow w later p context x =
    between p (λ v v'. Grows (execute v context x) (execute v' context x)) (λ ws. execute_grows ws context x)
