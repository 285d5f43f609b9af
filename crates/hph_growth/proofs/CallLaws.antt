-- Calls of functions keep that answers stay.
use Rattle.std.proofs.Common.{◌≡◌, ℕ, zero, suc, List, [], ◌∷◌, ◌∙◌, refl, ap, subst}
use Rattle.std.specs.Prelude.{Bool, true, false, length, nat_lt, Option, None, Some, Result, if◌then◌else◌}
use Rattle.std.specs.Option.{option_map_or, unwrap_or}
use Rattle.hph_php.specs.declared.fatal.Fatal.{Fatal}
use Rattle.hph_php.specs.declared.fatal.Fatal.TheVariants.{TooFewArguments, BadArgument}
use Rattle.hph_php.specs.declared.builtin.Builtin.{Builtin}
use Rattle.hph_php.specs.declared.builtin.Builtin.TheVariants as f
use Rattle.hph_php.specs.Values.{Value}
use Rattle.hph_php.specs.Arrays.{Array}
use Rattle.hph_php.specs.Builtins.{Reply, builtin_of}
use Rattle.hph_php.specs.Codes.{builtin_named}
use Rattle.hph_php.specs.State.{Frame, Name, place, set, by_name, placed, on_located, with_frames}
use Rattle.hph_php.specs.Answers.{Means, first, change, nothing, fail}
use Rattle.hph_php.specs.Declarations.{Codes, takes_reference}
use Rattle.hph_php.specs.World.{Context, Receiver, no_receiver, Argument, by_value, by_reference}
use Rattle.hph_php.specs.Targets.{Reading, Form, plain_variable, a_path, from_directory, another, Base}
use Rattle.hph_php.specs.Paths.{PathStep, change_array_at}
use Rattle.hph_php.specs.Calls.{value_argument, argument_by, arguments_from, arguments, values_of, function_in, call_function, reply, pushed, without_last, change_array, popped_by, call_push, call_pop, call_builtin, call_either, call_named, Parameter, required, bind_arguments, bind_defaults, names_of, without_arguments, bind_parameters, enough, frame_of, in_frame, in_frame_of, begins, run_body}
use Rattle.hph_growth.specs.Growth.{Grows}
use Rattle.hph_growth.proofs.GrowthLaws.{EachGrows, none, one_more, each_grows, prefix_itself, give_grows, nothing_grows, fail_grows, look_grows, settle_grows, heap_grows, print_grows, change_grows, bind_grows, first_grows, by_state_grows, if_grows}
use Rattle.hph_growth.proofs.StateLaws.{same_grows, located_grows}
use Rattle.hph_growth.proofs.WriteLaws.{store_grows}
use Rattle.hph_growth.proofs.Worlds.{Worlds, earlier, later}
use Rattle.hph_growth.proofs.TargetLaws.{AllGrow, no_reading, one_reading, along_grows}

-- ---- arguments

value_argument_grows : {m m' : Means Value} → Grows m m' → Grows (value_argument m) (value_argument m')
value_argument_grows p = bind_grows p (λ v. give_grows (by_value v))

argument_grows : (b : Bool) (form : Form) {m m' : Means Value} → Grows m m' → Grows (argument_by b form m) (argument_by b form m')
argument_grows true (plain_variable name) p = first_grows (located_grows (place by_name name))
    (look_grows (λ st. by_reference (placed name st)))
argument_grows true a_path p = value_argument_grows p
argument_grows true from_directory p = value_argument_grows p
argument_grows true another p = value_argument_grows p
argument_grows false form p = value_argument_grows p

arguments_from_grows : (position : ℕ) (by_ref : ℕ → Bool) {xs ys : List Reading} → AllGrow xs ys →
    EachGrows (arguments_from position by_ref xs) (arguments_from position by_ref ys)
arguments_from_grows position by_ref no_reading = none
arguments_from_grows position by_ref (one_reading {x} {y} p ps) = one_more
    (subst (λ form. Grows (argument_by (by_ref position) x.form x.value) (argument_by (by_ref position) form y.value)) p.form
    (argument_grows (by_ref position) x.form p.value))
    (arguments_from_grows (suc position) by_ref ps)

pub arguments_grows : (program : Codes) (method : Bool) (name : Name) {xs ys : List Reading} → AllGrow xs ys →
    Grows (arguments program method name xs) (arguments program method name ys)
arguments_grows program method name ps = each_grows (arguments_from_grows 0 (takes_reference program method name) ps)

values_of_grows : {xs ys : List Reading} → AllGrow xs ys → EachGrows (values_of xs) (values_of ys)
values_of_grows no_reading = none
values_of_grows (one_reading p ps) = one_more p.value (values_of_grows ps)

-- ---- functions that are built in

reply_grows : (r : Reply) → Grows (reply r) (reply r)
reply_grows r = first_grows (print_grows r.printed) (settle_grows r.value)

change_array_grows : (within : Option ℕ) (go : Array Value → Result (Array Value × Value) Fatal) (base : Base) (steps : List PathStep) →
    Grows (change_array within go base steps) (change_array within go base steps)
change_array_grows within go base steps = store_grows base (change_array_at within go steps)

popped_grows : (vs : List Value) (within : Option ℕ) (base : Base) (steps : List PathStep) →
    Grows (popped_by vs within base steps) (popped_by vs within base steps)
popped_grows [] within base steps = change_array_grows within without_last base steps
popped_grows (v ∷ vs) within base steps = fail_grows BadArgument

push_grows : (within : Option ℕ) {xs ys : List Reading} → AllGrow xs ys → Grows (call_push within xs) (call_push within ys)
push_grows within no_reading = fail_grows TooFewArguments
push_grows within (one_reading p ps) = along_grows p (λ base steps.
    bind_grows (each_grows (values_of_grows ps)) (λ vs. change_array_grows within (pushed vs) base steps))

pop_grows : (within : Option ℕ) {xs ys : List Reading} → AllGrow xs ys → Grows (call_pop within xs) (call_pop within ys)
pop_grows within no_reading = fail_grows TooFewArguments
pop_grows within (one_reading p ps) = along_grows p (λ base steps.
    bind_grows (each_grows (values_of_grows ps)) (λ vs. popped_grows vs within base steps))

builtin_grows : (within : Option ℕ) (function : Builtin) {xs ys : List Reading} → AllGrow xs ys →
    Grows (call_builtin within function xs) (call_builtin within function ys)
builtin_grows within f.ArrayPush ps = push_grows within ps
builtin_grows within f.ArrayPop ps = pop_grows within ps
builtin_grows within function ps = bind_grows (each_grows (values_of_grows ps)) (λ vs. reply_grows (builtin_of function vs))

-- ---- functions of the program

module _ (ws : Worlds) (context : Context) where
  function_grows : (name : Name) {xs ys : List Reading} → AllGrow xs ys →
      Grows (call_function (earlier ws) context name xs) (call_function (later ws) context name ys)
  function_grows name ps = bind_grows (heap_grows (function_in name)) (λ code.
      bind_grows (arguments_grows context.program false name ps) (λ args. ws.calls code no_receiver args))

  either_grows : (name : Name) (o : Option Builtin) {xs ys : List Reading} → AllGrow xs ys →
      Grows (call_either (earlier ws) context name xs o) (call_either (later ws) context name ys o)
  either_grows name None ps = function_grows name ps
  either_grows name (Some function) ps = builtin_grows context.class function ps

  pub call_named_grows : (name : Name) {xs ys : List Reading} → AllGrow xs ys →
      Grows (call_named (earlier ws) context name xs) (call_named (later ws) context name ys)
  call_named_grows name ps = either_grows name (builtin_named name) ps

-- ---- the body of a function

pub data OptionGrows {A : Type 0} : Option (Means A) → Option (Means A) → Type 0 where
  neither : OptionGrows None None
  each_one : {m m' : Means A} → Grows m m' → OptionGrows (Some m) (Some m')

pub data ParametersGrow : List Parameter → List Parameter → Type 0 where
  no_parameter : ParametersGrow [] []
  one_parameter : (name : Name) {o o' : Option (Means Value)} {ps qs : List Parameter} → OptionGrows o o' → ParametersGrow ps qs →
      ParametersGrow (record { name = name; default = o } ∷ ps) (record { name = name; default = o' } ∷ qs)

required_from : Option (Means Value) → ℕ → ℕ
required_from default zero = option_map_or (λ _. 0) default 1
required_from default (suc n) = suc (suc n)

from_same : {o o' : Option (Means Value)} → OptionGrows o o' → (n : ℕ) → required_from o n ≡ required_from o' n
unfolding required_from
from_same neither n = refl
from_same (each_one p) zero = refl
from_same (each_one p) (suc n) = refl

required_same : {ps qs : List Parameter} → ParametersGrow ps qs → required ps ≡ required qs
unfolding required_from
required_same no_parameter = refl
required_same (one_parameter name {o} {o'} {ps} {qs} p rest) = from_same p (required ps) ∙ ap (required_from o') (required_same rest)

default_grows : {o o' : Option (Means Value)} → OptionGrows o o' →
    Grows (unwrap_or o (fail TooFewArguments)) (unwrap_or o' (fail TooFewArguments))
default_grows neither = fail_grows TooFewArguments
default_grows (each_one p) = p

defaults_grow : {ps qs : List Parameter} → ParametersGrow ps qs → Grows (bind_defaults ps) (bind_defaults qs)
defaults_grow no_parameter = nothing_grows
defaults_grow (one_parameter name p rest) = bind_grows (default_grows p) (λ v.
    first_grows (located_grows (set by_name name v)) (defaults_grow rest))

names_same : {ps qs : List Parameter} → ParametersGrow ps qs → names_of ps ≡ names_of qs
names_same no_parameter = refl
names_same (one_parameter name p rest) = ap (λ names. name ∷ names) (names_same rest)

left_grow : {ps qs : List Parameter} → ParametersGrow ps qs → (args : List Argument) →
    ParametersGrow (without_arguments ps args) (without_arguments qs args)
left_grow no_parameter args = no_parameter
left_grow (one_parameter name p rest) [] = one_parameter name p rest
left_grow (one_parameter name p rest) (a ∷ args) = left_grow rest args

parameters_grow : {ps qs : List Parameter} → ParametersGrow ps qs → (args : List Argument) →
    Grows (bind_parameters ps args) (bind_parameters qs args)
parameters_grow {ps} {qs} p args = subst
    (λ names. Grows (bind_parameters ps args)
    (first (change (on_located (bind_arguments by_name names args))) (bind_defaults (without_arguments qs args)))) (names_same p)
    (first_grows (located_grows (bind_arguments by_name (names_of ps) args)) (defaults_grow (left_grow p args)))

enough_grows : {ps qs : List Parameter} → ParametersGrow ps qs → (args : List Argument) → Grows (enough ps args) (enough qs args)
enough_grows {ps} {qs} p args = subst
    (λ k. Grows (enough ps args) (if nat_lt (length args) k then fail TooFewArguments else nothing)) (required_same p)
    (if_grows (nat_lt (length args) (required ps)) (fail_grows TooFewArguments) nothing_grows)

in_frame_grows : {A : Type 0} (frame : Frame) {m m' : Means A} → Grows m m' → Grows (in_frame frame m) (in_frame frame m')
in_frame_grows frame p = by_state_grows (λ st.
    first_grows (same_grows (with_frames (frame ∷ st.frames)) (λ s. record { out = refl; called = refl })) (bind_grows p (λ a.
    first_grows (same_grows (with_frames st.frames) (λ s. record { out = refl; called = refl })) (give_grows a))))

pub frame_of_grows : {A : Type 0} (code : ℕ) (on : Receiver) {m m' : Means A} → Grows m m' →
    Grows (in_frame_of code on m) (in_frame_of code on m')
frame_of_grows code on p = by_state_grows (λ st. in_frame_grows (frame_of code on st.core.heap) p)

pub run_body_grows : (code : ℕ) {ps qs : List Parameter} {body body' : Means Value} (on : Receiver) (args : List Argument) →
    ParametersGrow ps qs → Grows body body' → Grows (run_body code ps body on args) (run_body code qs body' on args)
run_body_grows code on args p q = frame_of_grows code on (first_grows (enough_grows p args) (first_grows (parameters_grow p args)
    (first_grows (change_grows (begins code) (λ st. record { out = prefix_itself st.core.out; called = (code ∷ [], refl) })) q)))
