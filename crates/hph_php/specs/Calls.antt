-- Calls of functions (PHP manual, User-defined functions, Function arguments). A call looks up its function before its
-- arguments. More arguments than parameters are dropped, and too few are a fatal error after the arguments were evaluated.
use Rattle.std.specs.Prelude.{ℕ, zero, suc, Bool, true, false, List, [], ◌∷◌, ◌++◌, length, nat_lt, Option, None, Some, Result, Ok, if◌then◌else◌, pos}
use Rattle.std.specs.Option.{unwrap_or, option_map_or, ok_or}
use Rattle.hph_php.specs.declared.fatal.Fatal.{Fatal}
use Rattle.hph_php.specs.declared.fatal.Fatal.TheVariants.{TooFewArguments, BadArgument, UndefinedFunction}
use Rattle.hph_php.specs.declared.builtin.Builtin.{Builtin}
use Rattle.hph_php.specs.declared.builtin.Builtin.TheVariants as f
use Rattle.hph_php.specs.Values.{Value, Int}
use Rattle.hph_php.specs.Conversions.{map_ok}
use Rattle.hph_php.specs.Arrays.{Array, push, pop, popped}
use Rattle.hph_php.specs.Builtins.{Reply, builtin_of}
use Rattle.hph_php.specs.Codes.{builtin_named}
use Rattle.hph_php.specs.State.{State, Heap, Frame, Name, named, folded, class_of_object, Keeping, Located, bind_new, by_name, on_located, place_variable, placed, set_variable, with_frames}
use Rattle.hph_php.specs.Answers.{Means, bind, first, give, nothing, fail, look, change, by_state, by_heap, settle, print, each}
use Rattle.hph_php.specs.Declarations.{Codes, takes_reference}
use Rattle.hph_php.specs.World.{World, Context, Receiver, no_receiver, a_class, an_object, Argument, by_value, by_reference}
use Rattle.hph_php.specs.Targets.{Reading, Form, plain_variable, Base, along, store}
use Rattle.hph_php.specs.Paths.{PathStep, change_array_at}

-- ---- arguments

abbrev pub value_argument : Means Value → Means Argument
value_argument m = bind m (λ v. give (by_value v))

-- a variable by reference gives its location
abbrev pub argument_by : Bool → Form → Means Value → Means Argument
argument_by true (plain_variable name) m = first (change (place_variable name)) (look (λ st. by_reference (placed name st)))
argument_by _ _ m = value_argument m

abbrev pub arguments_from : ℕ → (ℕ → Bool) → List Reading → List (Means Argument)
arguments_from position by_ref [] = []
arguments_from position by_ref (x ∷ xs) = argument_by (by_ref position) x.form x.value ∷ arguments_from (suc position) by_ref xs

-- the arguments from left to right; `method` says which declarations of the name count
abbrev pub arguments : Codes → Bool → Name → List Reading → Means (List Argument)
arguments program method name xs = each (arguments_from 0 (takes_reference program method name) xs)

abbrev pub values_of : List Reading → List (Means Value)
values_of [] = []
values_of (x ∷ xs) = x.value ∷ values_of xs

-- ---- functions of the program

-- the code of a function that is declared
abbrev pub function_in : Name → Heap → Result ℕ Fatal
function_in name heap = ok_or (named (folded name) heap.functions) UndefinedFunction

abbrev pub call_function : World → Context → Name → List Reading → Means Value
call_function world context name xs = bind (by_heap (function_in name)) (λ code.
    bind (arguments context.program false name xs) (λ args. world.call code no_receiver args))

-- ---- functions that are built in

abbrev pub reply : Reply → Means Value
reply r = first (print r.printed) (settle r.value)

-- what array_push and array_pop make of an array, and what they give
abbrev pub pushed : List Value → Array Value → Result (Array Value × Value) Fatal
pushed values a = map_ok (λ b. (b, Int (pos (length b.pairs)))) (push a values)

abbrev pub without_last : Array Value → Result (Array Value × Value) Fatal
without_last a = Ok (pop a, popped a)

-- The array at a path is read after the other arguments, and written back.
abbrev pub change_array : Option ℕ → (Array Value → Result (Array Value × Value) Fatal) → Base → List PathStep → Means Value
change_array within go base steps = store base (change_array_at within go steps)

-- array_pop takes one argument
abbrev pub popped_by : List Value → Option ℕ → Base → List PathStep → Means Value
popped_by [] within base steps = change_array within without_last base steps
popped_by (v ∷ vs) within base steps = fail BadArgument

abbrev pub call_push : Option ℕ → List Reading → Means Value
call_push within [] = fail TooFewArguments
call_push within (x ∷ xs) = along x (λ base steps. bind (each (values_of xs)) (λ vs. change_array within (pushed vs) base steps))

abbrev pub call_pop : Option ℕ → List Reading → Means Value
call_pop within [] = fail TooFewArguments
call_pop within (x ∷ xs) = along x (λ base steps. bind (each (values_of xs)) (λ vs. popped_by vs within base steps))

abbrev pub call_builtin : Option ℕ → Builtin → List Reading → Means Value
call_builtin within f.ArrayPush xs = call_push within xs
call_builtin within f.ArrayPop xs = call_pop within xs
call_builtin within function xs = bind (each (values_of xs)) (λ vs. reply (builtin_of function vs))

abbrev pub call_either : World → Context → Name → List Reading → Option Builtin → Means Value
call_either world context name xs None = call_function world context name xs
call_either world context name xs (Some function) = call_builtin context.class function xs

-- `f(args)`: a name of a built-in function is that function
abbrev pub call_named : World → Context → Name → List Reading → Means Value
call_named world context name xs = call_either world context name xs (builtin_named name)

-- ---- the body of a function

-- a parameter with the meaning of its default
pub record Parameter : Type 0 where
  pub name : Name
  pub default : Option (Means Value)

-- a parameter is required if it or a later one has no default
abbrev pub required : List Parameter → ℕ
required [] = 0
required (p ∷ ps) = from_rest (required ps)
  where
    from_rest : ℕ → ℕ
    from_rest zero = option_map_or (λ _. 0) p.default 1
    from_rest (suc n) = suc (suc n)

module _ {K V : Type 0} (by : Keeping K V) where
  -- a parameter has the argument's location, or a new one with its value
  abbrev pub bind_argument : K → Argument → Located V → Located V
  bind_argument key (by_reference location) l = record l { variables = by.bind key location l.variables }
  bind_argument key (by_value value) l = bind_new by key (Some value) l

  -- the first parameters have the arguments; more arguments than parameters are dropped
  abbrev pub bind_arguments : List K → List Argument → Located V → Located V
  bind_arguments [] args l = l
  bind_arguments (key ∷ keys) [] l = l
  bind_arguments (key ∷ keys) (a ∷ args) l = bind_arguments keys args (bind_argument key a l)

-- a parameter without an argument has its default, which is evaluated in the call
abbrev pub bind_defaults : List Parameter → Means (Unit {0})
bind_defaults [] = nothing
bind_defaults (p ∷ ps) =
    bind (unwrap_or p.default (fail TooFewArguments)) (λ v. first (change (set_variable p.name v)) (bind_defaults ps))

abbrev pub names_of : List Parameter → List Name
names_of [] = []
names_of (p ∷ ps) = p.name ∷ names_of ps

abbrev pub without_arguments : List Parameter → List Argument → List Parameter
without_arguments [] args = []
without_arguments (p ∷ ps) [] = p ∷ ps
without_arguments (p ∷ ps) (a ∷ args) = without_arguments ps args

abbrev pub bind_parameters : List Parameter → List Argument → Means (Unit {0})
bind_parameters ps args =
    first (change (on_located (bind_arguments by_name (names_of ps) args))) (bind_defaults (without_arguments ps args))

abbrev pub enough : List Parameter → List Argument → Means (Unit {0})
enough ps args = if nat_lt (length args) (required ps) then fail TooFewArguments else nothing

-- ---- frames

-- the late static class and `$this` of what is called: an object's class is the late static class, by whatever name it is called
abbrev pub late_class_of : Heap → Receiver → Option ℕ
late_class_of heap no_receiver = None
late_class_of heap (a_class class) = Some class
late_class_of heap (an_object object) = Some (class_of_object heap object)

abbrev pub this_of : Receiver → Option ℕ
this_of (an_object object) = Some object
this_of _ = None

-- a frame without variables yet, for code that is called on something
abbrev pub frame_of : ℕ → Receiver → Heap → Frame
frame_of code receiver heap = record { variables = []; code = code; static_class = late_class_of heap receiver; object = this_of receiver }

-- in a frame of its own, after which the caller's is the first again
abbrev pub in_frame : {A : Type 0} → Frame → Means A → Means A
in_frame frame m = by_state (λ st.
    first (change (with_frames (frame ∷ st.frames))) (bind m (λ a. first (change (with_frames st.frames)) (give a))))

-- what is called on something
abbrev pub in_frame_of : {A : Type 0} → ℕ → Receiver → Means A → Means A
in_frame_of code receiver m = by_state (λ st. in_frame (frame_of code receiver st.core.heap) m)

abbrev pub begins : ℕ → State → State
begins code st = record st { called = st.called ++ code ∷ [] }

-- The call counts from where its body begins, after all its parameters have their values.
abbrev pub run_body : ℕ → List Parameter → Means Value → Receiver → List Argument → Means Value
run_body code ps body receiver args =
    in_frame_of code receiver (first (enough ps args) (first (bind_parameters ps args) (first (change (begins code)) body)))
