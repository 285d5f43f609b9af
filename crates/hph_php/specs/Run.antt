-- The run of a program: what it prints and how it ends with so many units, and which functions it calls. A call of a function or
-- method, an entry of a file and a read of a class constant take a unit each; so as many of them nest as there are units.
use Rattle.std.specs.Prelude.{ℕ, zero, suc, true, false, List, [], ◌∷◌, map, Option, None, Some, slice_get, position}
use Rattle.std.specs.List.{filter}
use Rattle.std.specs.Option.{option_map, option_map_or}
use Rattle.hph_ast.specs.declared.expr.Expr.{Expr}
use Rattle.hph_ast.specs.declared.function.Function.{Function, out-Function}
use Rattle.hph_ast.specs.declared.function.Param.{Param}
use Rattle.hph_ast.specs.declared.program.File.{File}
use Rattle.hph_ast.specs.declared.program.Program.{Program}
use Rattle.hph_wasm.specs.Outcome as outcome
use Rattle.hph_wasm.specs.Outcome.{Outcome, Done, Stopped}
use Rattle.hph_php.specs.Values.{Value, Null}
use Rattle.hph_php.specs.State.{State, Name, Site, is_site, empty_state, enter}
use Rattle.hph_php.specs.Answers.{Means, Answer, Gets, Ends, More, Stop, bind, first, give, nothing, spend, change_heap}
use Rattle.hph_php.specs.Declarations.{Codes, Code, a_body, a_value, initial_values, Declaration, codes_of, Placed, numbered_from, all_declarations, is_scope, declaration_site}
use Rattle.hph_php.specs.World.{World, Context, Receiver, a_class, Argument}
use Rattle.hph_php.specs.Calls.{Parameter, run_body, in_frame_of}
use Rattle.hph_php.specs.Expressions.{evaluate}
use Rattle.hph_php.specs.Statements.{Way, Returns, lacking}
use Rattle.hph_php.specs.Executions.{execute_all}
use Rattle.hph_php.specs.Files.{run_file}

-- ---- code

abbrev pub in_body : Codes → ℕ → Option ℕ → Context
in_body program file class = record { program = program; file = file; class = class; in_function = true }

-- a constant of a class or an initial value
abbrev pub in_class : Codes → ℕ → ℕ → Context
in_class program file class = record { program = program; file = file; class = Some class; in_function = false }

abbrev pub parameter : World → Context → Param → Parameter
parameter world context p = record { name = p.name.spelled; default = option_map (evaluate world context) p.default }

-- a body that is left without a value gives null
abbrev pub result_of : Way → Value
result_of (Returns value) = value
result_of _ = Null

abbrev pub body_value : World → Context → Function → Means Value
body_value world context f = bind (execute_all world context (out-Function f).body) (λ w. give (result_of w))

abbrev pub parameters : World → Context → Function → List Parameter
parameters world context f = map (parameter world context) (out-Function f).params

-- a property without an initial value is null
abbrev pub each_initial : World → Context → List (Name × Option Expr) → Means (List (Name × Value))
each_initial world context [] = give []
each_initial world context (p ∷ ps) = bind (option_map_or (evaluate world context) p.1 (give Null)) (λ v.
    bind (each_initial world context ps) (λ rest. give ((p.0, v) ∷ rest)))

-- What a piece of code means in a world: a body with its parameters, a value of a class, or initial values of one.
pub data Routine : Type 0 where
  a_function : (parameters : World → List Parameter) → (body : World → Means Value) → Routine
  an_initial_value : (class : ℕ) → (value : World → Means Value) → Routine
  initials : (class : ℕ) → (values : World → Means (List (Name × Value))) → Routine

abbrev pub routine_in : Codes → ℕ → Code → Routine
routine_in program file (a_body f class is_static) =
    a_function (λ world. parameters world (in_body program file class) f) (λ world. body_value world (in_body program file class) f)
routine_in program file (a_value x class) = an_initial_value class (λ world. evaluate world (in_class program file class) x)
routine_in program file (initial_values properties class) =
    initials class (λ world. each_initial world (in_class program file class) properties)

-- what the files and the code of a program mean
pub record Meanings : Type 0 where
  pub files : List (World → Means (Unit {0}))
  pub routines : List Routine

abbrev pub meanings_of : List File → Codes → Meanings
meanings_of files program = record {
  files = map (λ f. λ world. run_file program world f.0 f.1) (numbered_from 0 files);
  routines = map (λ (c : Placed). routine_in program c.site.file c.code) program.codes;
}

-- code goes by its number, from 1 on
abbrev pub routine_numbered : Meanings → ℕ → Option Routine
routine_numbered meanings zero = None
routine_numbered meanings (suc n) = slice_get meanings.routines n

-- what isn't there does nothing; an accepted program has all that it runs
abbrev pub file_meaning : Option (World → Means (Unit {0})) → World → Means (Unit {0})
file_meaning None world = nothing
file_meaning (Some m) world = m world

abbrev pub call_routine : Option Routine → World → ℕ → Receiver → List Argument → Means Value
call_routine (Some (a_function ps body)) world number on args = run_body number (ps world) (body world) on args
call_routine _ world number on args = give Null

-- A constant of a class and initial values run in a frame of their class, which is the late static class there.
abbrev pub value_routine : Option Routine → World → ℕ → Means Value
value_routine (Some (an_initial_value class m)) world number = in_frame_of number (a_class class) (m world)
value_routine _ world number = give Null

abbrev pub initials_routine : Option Routine → World → ℕ → Means (List (Name × Value))
initials_routine (Some (initials class m)) world number = in_frame_of number (a_class class) (m world)
initials_routine _ world number = give []

-- ---- the world, by how deep calls, files and constants may nest

-- for initial values, which read constants and call nothing
abbrev pub constants_alone : (ℕ → Means Value) → World
constants_alone constant = record {
  call = λ number on args. lacking;
  enter = λ file. lacking;
  constant = constant;
  initial = λ number. lacking;
  initials = λ number. lacking;
}

module _ (meanings : Meanings) where
  abbrev pub world_of : (ℕ → Receiver → List Argument → Means Value) → (ℕ → Means (Unit {0})) → (ℕ → Means Value) → World
  world_of call enter_file constant = record {
    call = call;
    enter = enter_file;
    constant = constant;
    initial = λ number. value_routine (routine_numbered meanings number) (constants_alone constant) number;
    initials = λ number. initials_routine (routine_numbered meanings number) (constants_alone constant) number;
  }

  -- Each takes a unit, so a world never lacks depth where there are units.
  abbrev pub world_at : ℕ → World
  world_at zero = world_of (λ number on args. lacking) (λ file. lacking) (λ number. lacking)
  world_at (suc depth) = world_of
      (λ number on args. spend (call_routine (routine_numbered meanings number) (world_at depth) number on args))
      (λ file. spend (file_meaning (slice_get meanings.files file) (world_at depth)))
      (λ number. spend (value_routine (routine_numbered meanings number) (world_at depth) number))

  -- the main file has the number 0 and counts as entered
  abbrev pub run : ℕ → Answer (Unit {0})
  run units = first (change_heap (enter 0)) ((world_at units).enter 0) units empty_state

abbrev pub answer : Program → ℕ → Answer (Unit {0})
answer p units = run (meanings_of p.files (codes_of p)) units

-- what is printed, and the end, as an observer sees them
abbrev pub outcome_of : Answer (Unit {0}) → Outcome Stop
outcome_of (Gets a units st) = record { output = st.core.out; end = Done }
outcome_of (Ends stop st) = record { output = st.core.out; end = Stopped stop }
outcome_of (More st) = record { output = st.core.out; end = outcome.More }

abbrev pub php : Program → ℕ → Outcome Stop
php p units = outcome_of (answer p units)

abbrev pub last_state : Answer (Unit {0}) → State
last_state (Gets a units st) = st
last_state (Ends stop st) = st
last_state (More st) = st

-- ---- calls

-- the scopes of a program behind its top level, which is 0: functions, classes and methods in order
abbrev pub scopes : Program → List (ℕ × Declaration)
scopes p = filter (λ d. is_scope d.1) (all_declarations p)

-- the number of the scope of a declaration
abbrev pub scope_of_site : Program → Site → ℕ
scope_of_site p site = option_map_or suc (position (λ d. is_site site (declaration_site d)) (scopes p)) 0

abbrev pub site_numbered : Codes → ℕ → Option Site
site_numbered program zero = None
site_numbered program (suc n) = option_map (λ (c : Placed). c.site) (slice_get program.codes n)

abbrev pub scope_called : Program → ℕ → ℕ
scope_called p number = option_map_or (scope_of_site p) (site_numbered (codes_of p) number) 0

-- The scopes of the functions and methods that were called with so many units, in order. A call is among them from where its
-- body begins, after all its parameters have their values.
abbrev pub calls : Program → ℕ → List ℕ
calls p units = map (scope_called p) (last_state (answer p units)).called
