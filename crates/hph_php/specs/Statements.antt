-- What statements mean (PHP manual, Control Structures, Variable scope). A turn of a loop takes a unit after its test and before
-- its body, this project's own.
use Rattle.std.specs.Prelude.{ℕ, zero, suc, ◌-◌, Bool, true, false, List, [], ◌∷◌, map, is_some, Option, None, Some, Result, Ok, Err, if◌then◌else◌}
use Rattle.std.specs.Option.{option_map_or, unwrap_or}
use Rattle.hph_array.specs.declared.key.Key.{Key}
use Rattle.hph_php.specs.declared.fatal.Fatal.{Fatal}
use Rattle.hph_php.specs.declared.fatal.Fatal.TheVariants.{ObjectUse}
use Rattle.hph_php.specs.Values.{Value, Null, Arr, Obj, listed}
use Rattle.hph_php.specs.Conversions.{to_bool, value_of_key}
use Rattle.hph_php.specs.Comparison.{loosely_equal}
use Rattle.hph_php.specs.State.{State, Name, place, location_in, by_name, on_globals, on_located, bind_static, static_variable, bind_variable, unbind_variable, set_variable, with_constant}
use Rattle.hph_php.specs.Answers.{Means, More, bind, first, give, nothing, change, change_heap, by_state, settle, spend, in_order}
use Rattle.hph_php.specs.Targets.{Reading, Form, plain_variable, along, unset_from}

-- how a statement is left: to the next one; out of loops and switches, whose levels count from 0; to the next turn; with a value
pub data Way : Type 0 where
  Next : Way
  Breaks : (level : ℕ) → Way
  Continues : (level : ℕ) → Way
  Returns : (value : Value) → Way

abbrev pub goes_on : Means (Unit {0}) → Means Way
goes_on m = bind m (λ _. give Next)

-- ---- one after the other

abbrev pub next_by : Means Way → Way → Means Way
next_by rest Next = rest
next_by rest (Breaks level) = give (Breaks level)
next_by rest (Continues level) = give (Continues level)
next_by rest (Returns value) = give (Returns value)

abbrev pub both : Means Way → Means Way → Means Way
both m rest = bind m (next_by rest)

abbrev pub block : List (Means Way) → Means Way
block [] = give Next
block (m ∷ ms) = both m (block ms)

-- ---- choices

abbrev pub truth : Means Value → Means Bool
truth m = bind m (λ v. give (to_bool v))

abbrev pub choose : Means Value → Means Way → Means Way → Means Way
choose test m other = bind (truth test) (λ t. if t then m else other)

-- the branch of the first test that holds
abbrev pub branches : List (Means Value × Means Way) → Means Way → Means Way
branches [] other = other
branches (b ∷ bs) other = choose b.0 b.1 (branches bs other)

-- ---- loops

-- after a turn: on with the loop, out of it, or out of the loops around it
abbrev pub after_turn : Means Way → Way → Means Way
after_turn again Next = again
after_turn again (Breaks zero) = give Next
after_turn again (Breaks (suc level)) = give (Breaks level)
after_turn again (Continues zero) = again
after_turn again (Continues (suc level)) = give (Continues level)
after_turn again (Returns value) = give (Returns value)

abbrev pub turn : Means Way → Means Way → Means Way
turn body again = spend (bind body (after_turn again))

abbrev pub turn_if : Means Way → Means Way → Bool → Means Way
turn_if body again t = if t then turn body again else give Next

abbrev pub lacking : {A : Type 0} → Means A
lacking n st = More st

-- as many turns as there may be, which are never fewer than the units
abbrev pub turns : ℕ → Means Bool → Means (Unit {0}) → Means Way → Means Way
turns zero test step body = bind test (turn_if body lacking)
turns (suc t) test step body = bind test (turn_if body (first step (turns t test step body)))

-- a loop with a test before each turn and a step after it
abbrev pub loop : Means Bool → Means (Unit {0}) → Means Way → Means Way
loop test step body n st = turns n test step body n st

-- a loop whose test comes after each turn
abbrev pub loop_after : Means Bool → Means Way → Means Way
loop_after test body n st = turn body (turns n test nothing body) n st

-- the last of the tests decides, and no test is true
abbrev pub tests : List (Means Value) → Means Bool
tests [] = give true
tests (m ∷ []) = truth m
tests (m ∷ l ∷ ms) = bind m (λ _. tests (l ∷ ms))

abbrev pub dropped : Means Value → Means (Unit {0})
dropped m = bind m (λ _. nothing)

abbrev pub all_dropped : List (Means Value) → Means (Unit {0})
all_dropped ms = in_order (map dropped ms)

abbrev pub for_loop : List (Means Value) → List (Means Value) → List (Means Value) → Means Way → Means Way
for_loop init test step body = first (all_dropped init) (loop (tests test) (all_dropped step) body)

-- ---- foreach: the array as it was at the start; the value variable is set, then the key variable

abbrev pub set_element : Option Name → Name → Key × Value → State → State
set_element None value p st = set_variable value p.1 st
set_element (Some key) value p st = set_variable key (value_of_key p.0) (set_variable value p.1 st)

abbrev pub each_pair : Option Name → Name → Means Way → List (Key × Value) → Means Way
each_pair key value body [] = give Next
each_pair key value body (p ∷ ps) =
    spend (bind (first (change (set_element key value p)) body) (after_turn (each_pair key value body ps)))

-- what foreach goes through: nothing for what is no array
abbrev pub turns_of : Value → Result (List (Key × Value)) Fatal
turns_of (Arr pairs next_key) = Ok (listed pairs)
turns_of (Obj object) = Err ObjectUse
turns_of _ = Ok []

abbrev pub foreach_in : Option Name → Name → Means Way → Value → Means Way
foreach_in key value body v = bind (settle (turns_of v)) (each_pair key value body)

abbrev pub foreach : Means Value → Option Name → Name → Means Way → Means Way
foreach subject key value body = bind subject (foreach_in key value body)

-- ---- switch

-- a case, or the default, which has no test
pub record Case : Type 0 where
  pub test : Option (Means Value)
  pub body : Means Way

-- the bodies from a case on
abbrev pub bodies : List Case → Means Way
bodies [] = give Next
bodies (c ∷ cs) = both c.body (bodies cs)

abbrev pub default_bodies : List Case → Means Way
default_bodies [] = give Next
default_bodies (c ∷ cs) = option_map_or (λ _. default_bodies cs) c.test (bodies (c ∷ cs))

-- what goes on after the test of a case
abbrev pub pick_if : Value → Means Way → Means Way → Means Value → Means Way
pick_if subject found others test = bind test (λ v. bind (settle (loosely_equal subject v)) (λ same. if same then found else others))

-- from the first case that equals the subject on, and otherwise from the default on
abbrev pub pick : Value → List Case → Means Way → Means Way
pick subject [] otherwise = otherwise
pick subject (c ∷ cs) otherwise =
    option_map_or (pick_if subject (bodies (c ∷ cs)) (pick subject cs otherwise)) c.test (pick subject cs otherwise)

-- `continue` at a switch acts as `break`
abbrev pub after_switch : Way → Means Way
after_switch w = after_turn (give Next) w

abbrev pub switch : Means Value → List Case → Means Way
switch subject cases = bind (bind subject (λ v. pick v cases (default_bodies cases))) after_switch

-- ---- variables

-- in a function the name has the global variable's location, which is made if there is none
abbrev pub global_variable : Bool → Name → State → State
global_variable false name st = st
global_variable true name st = bound (on_globals (place by_name name) st)
  where
    bound : State → State
    bound placed_st = bind_variable name (location_in by_name name placed_st.globals) placed_st

-- the name has the location of the program's static variable of a number; its initial value is evaluated at the first passage
abbrev pub static_variable_with : ℕ → Name → Option (Means Value) → Means (Unit {0})
static_variable_with number name value = by_state (λ st. first (change (on_located (bind_static by_name name number)))
    (if is_some (static_variable number st.core.places) then nothing
    else option_map_or (λ m. bind m (λ v. change (set_variable name v))) value nothing))

abbrev pub unset_by : Option ℕ → Form → Reading → Means (Unit {0})
unset_by within (plain_variable name) x = change (unbind_variable name)
unset_by within _ x = along x (unset_from within)

abbrev pub define_constant : Name → Means Value → Means (Unit {0})
define_constant name m = bind m (λ v. change_heap (with_constant name v))

abbrev pub return_with : Option (Means Value) → Means Way
return_with None = give (Returns Null)
return_with (Some m) = bind m (λ v. give (Returns v))

-- `break` and `continue` go out of one level if none is written
abbrev pub level_of : Option ℕ → ℕ
level_of levels = unwrap_or levels 1 - 1
