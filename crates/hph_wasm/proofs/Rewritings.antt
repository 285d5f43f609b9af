-- Each step between configurations that go on is one rewriting of the standard's, and each trap is by a rule.
use Rattle.std.proofs.Common.{◌≡◌, ℕ, List, [], ◌∷◌, ◌++◌, length, reverse, refl, sym, ap, subst, ◌∙◌, Some}
use Rattle.std.specs.Prelude.{nat_eq, slice_get}
use Rattle.std.proofs.lemmas.List.{reverse-reverse}
use Rattle.hph_wasm.specs.declared.instr.Instr.{Instr, Call}
use Rattle.hph_wasm.specs.declared.types.FuncType.{FuncType}
use Rattle.hph_wasm.specs.declared.value.Value.{Value}
use Rattle.hph_wasm.specs.declared.module.Import.{Import}
use Rattle.hph_wasm.specs.declared.module.Module.{Module}
use Rattle.hph_wasm.specs.Values.{types}
use Rattle.hph_wasm.specs.Functions.{Function, Imported, Defined, functions, type_number}
use Rattle.hph_wasm.specs.Configuration.{Reply, Goes, Stops, Host, Label, Frame, Store, Setting, Configuration, Running, Calling, Trapped, Stuck, Ended}
use Rattle.hph_wasm.specs.Reduction.{Arguments, arguments, results, reply_of, with_host, after_call, after_return, end_of_function, end_of_code, after_reply, invocation_of, invocation}
use Rattle.hph_wasm.specs.Sequences.{Invoke, Then, join, single, plain, constants, stack}
use Rattle.hph_wasm.specs.Rewriting.{Rule, State, in_setting, RewritesTo, StepsAreRewritings, IsTrapStep, TrapsAreByRule}
use Rattle.hph_wasm.specs.Rewriting as rule
use Rattle.hph_wasm.proofs.Choices.{if_some-cases, cond-cases}
use Rattle.hph_wasm.proofs.SequenceLaws.{join-empty, join-join, arguments_onto-join, arguments_onto-types, constants-results}
use Rattle.hph_wasm.proofs.Contexts.{GoesTo, rewrites_at, leaves}
use Rattle.hph_wasm.proofs.BranchRewritings.{end_of_code_rewrites}
use Rattle.hph_wasm.proofs.InstructionRewritings.{instr_led}

module _ {H E : Type 0} (host : Host H E) (m : Module) where
  -- The rule of a call applies to the arguments alone.
  call_rewrites : (f : ℕ) (ty : FuncType) (values : List Value) (call : Arguments) (rest : List Instr) (at : Setting H)
      (c : Configuration H E) → arguments ty.params values ≡ Some call →
      GoesTo host m (in_setting (join (stack call.below) (join (join (constants call.passed) (single (Invoke f))) (plain rest))) at) c →
      GoesTo host m (in_setting (join (stack values) (Then (Invoke f) (plain rest))) at) c
  call_rewrites f ty values call rest at c taken goes =
      subst (λ code. GoesTo host m (in_setting code at) c)
      (sym (arguments_onto-join [] (reverse ty.params) values call (Then (Invoke f) (plain rest)) taken ∙
      ap (join (stack call.below)) (sym (join-join (constants call.passed) (single (Invoke f)) (plain rest)))))
      goes

  -- A call passes a value for each parameter, of its type.
  pub passed-types : (ty : FuncType) (values : List Value) (call : Arguments) → arguments ty.params values ≡ Some call →
      types call.passed ≡ ty.params
  passed-types ty values call taken = arguments_onto-types [] (reverse ty.params) values call taken ∙ reverse-reverse ty.params

  module _ (f : ℕ) (rest : List Instr) (at : Setting H) (stuck : Configuration H E) (never : (before : State H) → GoesTo host m before stuck) where
    -- The state before a call's rule.
    abbrev invoking : Arguments → State H
    invoking call = in_setting (join (stack call.below) (join (join (constants call.passed) (single (Invoke f))) (plain rest))) at

    -- What a call leaves host m is on the stack of its caller.
    after_call_rewrites : (s : Store H) (frames : List Frame) (call : Arguments) (values : List Value) →
        Rule host m at.store at.locals (join (constants call.passed) (single (Invoke f))) s at.locals (stack values) →
        at.frames ≡ frames → GoesTo host m (invoking call) (after_call host m frames rest (values ++ call.below) (record at { store = s }))
    after_call_rewrites s [] call values r same = tt
    after_call_rewrites s (frame ∷ frames) call values r same = leaves host m at.labels at.frames values call.below rest r

    -- The call of an import is the rule of the host's functions.
    after_reply_rewrites : (import : Import) (number : ℕ) (ty : FuncType) (row : ℕ) (call : Arguments) (reply : Reply H E) →
        slice_get (functions m) f ≡ Some (Imported import number) → slice_get m.types number ≡ Some ty →
        types call.passed ≡ ty.params → host.row import.«module» import.name ty ≡ Some row →
        reply_of host row call.passed at.store ≡ reply →
        GoesTo host m (invoking call) (after_reply host m reply ty call.below rest at stuck)
    after_reply_rewrites import number ty row call (Stops h reason) is typed all found replies = tt
    after_reply_rewrites import number ty row call (Goes h result) is typed all found replies =
        if_some-cases (GoesTo host m (invoking call)) (results ty.results result) stuck _ (never (invoking call)) (λ values given.
        after_call_rewrites (with_host h at.store) at.frames call values
        (subst (Rule host m at.store at.locals (join (constants call.passed) (single (Invoke f))) (with_host h at.store) at.locals)
        (constants-results ty.results result values given)
        (rule.invoke_import at.store at.locals f import number ty row call.passed h result values is typed all found replies given))
        refl)

    -- An invocation is the rule of its kind of function.
    invocation_of_rewrites : (function : Function) (ty : FuncType) (call : Arguments) → slice_get (functions m) f ≡ Some function →
        slice_get m.types (type_number function) ≡ Some ty → types call.passed ≡ ty.params →
        GoesTo host m (invoking call) (invocation_of host m f function ty call rest at stuck)
    invocation_of_rewrites (Imported import number) ty call is typed all =
        if_some-cases (GoesTo host m (invoking call)) (host.row import.«module» import.name ty) stuck _ (never (invoking call)) (λ row found.
        after_reply_rewrites import number ty row call (reply_of host row call.passed at.store) is typed all found refl)
    invocation_of_rewrites (Defined func) ty call is typed all =
        rewrites_at host m at.labels at.frames call.below rest (rule.invoke_function at.store at.locals f func ty call.passed is typed all)

    -- The same with what is looked up: where something is missing the run is stuck.
    invocation_rewrites : (values : List Value) →
        GoesTo host m (in_setting (join (stack values) (Then (Invoke f) (plain rest))) at) (invocation host m f rest values at stuck)
    invocation_rewrites values =
        let before = in_setting (join (stack values) (Then (Invoke f) (plain rest))) at in
        if_some-cases (GoesTo host m before) (slice_get (functions m) f) stuck _ (never before) (λ function is.
        if_some-cases (GoesTo host m before) (slice_get m.types (type_number function)) stuck _ (never before) (λ ty typed.
        if_some-cases (GoesTo host m before) (arguments ty.params values) stuck _ (never before) (λ call taken.
        call_rewrites f ty values call rest at _ taken (invocation_of_rewrites function ty call is typed (passed-types ty values call taken)))))

  -- Each step.
  pub step_rewrites : StepsAreRewritings host m
  step_rewrites (Running [] values at) =
      subst (λ code. GoesTo host m (in_setting code at) (end_of_code host m values at.labels at)) (sym (join-empty (stack values)))
      (end_of_code_rewrites host m values at.labels at)
  step_rewrites (Running (i ∷ rest) values at) = (instr_led host m rest at i values).0
  step_rewrites (Calling f rest values at) = invocation_rewrites f rest at (Stuck (Call f ∷ rest) at) (λ before. tt) values
  step_rewrites (Trapped code at) = tt
  step_rewrites (Stuck code at) = tt
  step_rewrites (Ended end h) = tt

  -- What is left by its end doesn't trap.
  end_no_trap : (values results : List Value) (at : Setting H) (frame : Frame) (frames : List Frame) (store : Store H) →
      IsTrapStep m (Running [] values at) (after_return host m frame frames results store)
  end_no_trap values results at frame [] store = tt
  end_no_trap values results at frame (caller ∷ frames) store = tt

  end_of_function_no_trap : (values : List Value) (at : Setting H) (frames : List Frame) →
      IsTrapStep m (Running [] values at) (end_of_function host m values frames at.store (Stuck [] at))
  end_of_function_no_trap values at [] = tt
  end_of_function_no_trap values at (frame ∷ frames) =
      cond-cases (IsTrapStep m (Running [] values at)) (nat_eq frame.arity (length values)) _ _
      (λ _. end_no_trap values values at frame frames at.store) tt

  end_of_code_no_trap : (values : List Value) (labels : List Label) (at : Setting H) →
      IsTrapStep m (Running [] values at) (end_of_code host m values labels at)
  end_of_code_no_trap values [] at = end_of_function_no_trap values at at.frames
  end_of_code_no_trap values (label ∷ labels) at = tt

  module _ (f : ℕ) (rest : List Instr) (values : List Value) (at : Setting H) where
    -- Nor does a call.
    abbrev Called : Configuration H E → Type 0
    Called c = IsTrapStep m (Calling f rest values at) c

    after_call_no_trap : (frames : List Frame) (others : List Value) (after : Setting H) → Called (after_call host m frames rest others after)
    after_call_no_trap [] others after = tt
    after_call_no_trap (frame ∷ frames) others after = tt

    after_reply_no_trap : (reply : Reply H E) (ty : FuncType) (below : List Value) →
        Called (after_reply host m reply ty below rest at (Stuck (Call f ∷ rest) at))
    after_reply_no_trap (Stops h reason) ty below = tt
    after_reply_no_trap (Goes h result) ty below = if_some-cases Called (results ty.results result) _ _ tt
        (λ given _. after_call_no_trap at.frames (given ++ below) (record at { store = with_host h at.store }))

    invocation_of_no_trap : (function : Function) (ty : FuncType) (call : Arguments) →
        Called (invocation_of host m f function ty call rest at (Stuck (Call f ∷ rest) at))
    invocation_of_no_trap (Imported import number) ty call = if_some-cases Called (host.row import.«module» import.name ty) _ _ tt
        (λ row _. after_reply_no_trap (reply_of host row call.passed at.store) ty call.below)
    invocation_of_no_trap (Defined func) ty call = tt

    invocation_no_trap : Called (invocation host m f rest values at (Stuck (Call f ∷ rest) at))
    invocation_no_trap = if_some-cases Called (slice_get (functions m) f) _ _ tt (λ function _.
        if_some-cases Called (slice_get m.types (type_number function)) _ _ tt (λ ty _.
        if_some-cases Called (arguments ty.params values) _ _ tt (λ call _. invocation_of_no_trap function ty call)))

  -- Each trap.
  pub step_traps : TrapsAreByRule host m
  step_traps (Running [] values at) = end_of_code_no_trap values at.labels at
  step_traps (Running (i ∷ rest) values at) = (instr_led host m rest at i values).1
  step_traps (Calling f rest values at) = invocation_no_trap f rest values at
  step_traps (Trapped code at) = tt
  step_traps (Stuck code at) = tt
  step_traps (Ended end h) = tt
