-- Main is left with values alone, and a run ends otherwise only where the host ends it.
use Rattle.std.proofs.Common.{◌≡◌, ◌≤◌, ◌⊎◌, inl, inr, ℕ, zero, suc, zero-add, ◌+◌, List, [], ◌∷◌, ◌++◌, append_assoc, length, reverse, take, refl, sym, ap, subst, ◌∙◌, arith, Some}
use Rattle.std.specs.Prelude.{nat_eq, nat_le, slice_get}
use Rattle.std.proofs.lemmas.Bool.{leb-true, eqb-true}
use Rattle.std.proofs.lemmas.List.{reverse-append}
use Rattle.hph_wasm.specs.declared.instr.Instr.{Instr, Br, Return, Call}
use Rattle.hph_wasm.specs.declared.types.ValType.{ValType}
use Rattle.hph_wasm.specs.declared.types.ValType.TheVariants.{I32, I64}
use Rattle.hph_wasm.specs.declared.types.FuncType.{FuncType}
use Rattle.hph_wasm.specs.declared.value.Value.{Value}
use Rattle.hph_wasm.specs.declared.value.Value.TheVariants as value
use Rattle.hph_wasm.specs.declared.module.Import.{Import}
use Rattle.hph_wasm.specs.declared.module.Module.{Module}
use Rattle.hph_wasm.specs.Values.{types}
use Rattle.hph_wasm.specs.Functions.{Function, Imported, Defined, functions, type_number}
use Rattle.hph_wasm.specs.Outcome.{Done, Stopped, Trap, More}
use Rattle.hph_wasm.specs.Configuration.{Reply, Goes, Stops, Host, Label, Frame, Store, Setting, Configuration, Running, Calling, Trapped, Stuck, Ended}
use Rattle.hph_wasm.specs.Reduction.{Arguments, arguments_onto, arguments, results, reply_of, with_host, after_call, after_return, end_of_function, end_of_code, return_step, branch_step, after_reply, invocation_of, invocation, step}
use Rattle.hph_wasm.specs.Sequences.{Plain, Invoke, Labelled, Framed, Sequence, Then, join, single, plain, constants, stack, on_stack, InLabels}
use Rattle.hph_wasm.specs.Sequences as inside
use Rattle.hph_wasm.specs.Rewriting.{Rule, State, under_labels, under_frames, in_setting}
use Rattle.hph_wasm.specs.Rewriting as rule
use Rattle.hph_wasm.specs.Standing.{FramesStand, StandsBehind}
use Rattle.hph_wasm.specs.Ending.{LeavesValues, IsDoneStep, IsStopStep, EndsLeaveValues, StopsAreReplies}
use Rattle.hph_wasm.proofs.Choices.{if_some-cases, cond-cases}
use Rattle.hph_wasm.proofs.SequenceLaws.{join-empty, join-join, take-length, arguments_onto-join, constants-results}
use Rattle.hph_wasm.proofs.Contexts.{whole, leaves}
use Rattle.hph_wasm.proofs.BranchRewritings.{in_no_label, in_all_labels}
use Rattle.hph_wasm.proofs.Steps.{instr_step-kept}
use Rattle.hph_wasm.proofs.PlacedSteps.{frames_of}
use Rattle.hph_wasm.proofs.Rewritings.{passed-types}

-- An instruction that leaves no function.
abbrev pub Stays : Instr → Type 0
Stays (Br k) = ⊥
Stays Return = ⊥
Stays _ = Unit {0}

pub stays_or_leaves : (i : Instr) → Stays i ⊎ (((k : ℕ) × (i ≡ Br k)) ⊎ (i ≡ Return))
stays_or_leaves (Br k) = inr (inl (k, refl))
stays_or_leaves Return = inr (inr refl)
stays_or_leaves _ = inl tt

-- A value on top of others is the last of those that were taken.
onto_taken : (v : Value) (passed values : List Value) → reverse (v ∷ passed) ++ values ≡ reverse passed ++ (v ∷ values)
onto_taken v passed values = ap (λ l. l ++ values) (reverse-append (v ∷ []) passed) ∙ append_assoc (reverse passed) (v ∷ []) values

-- The arguments of a call, and the values below them, are the stack.
pub arguments_onto-stack : (passed : List Value) (params : List ValType) (values : List Value) (call : Arguments) →
    arguments_onto passed params values ≡ Some call → reverse passed ++ values ≡ reverse call.passed ++ call.below
arguments_onto-stack passed [] values call taken =
    let same : record { passed = passed; below = values } ≡ call = cc in
    ap (λ (call : Arguments). reverse call.passed ++ call.below) same
arguments_onto-stack passed (I32 ∷ params) [] call taken = let none : ⊥ = cc in absurd none
arguments_onto-stack passed (I64 ∷ params) [] call taken = let none : ⊥ = cc in absurd none
arguments_onto-stack passed (I32 ∷ params) (value.I64 n ∷ values) call taken = let none : ⊥ = cc in absurd none
arguments_onto-stack passed (I64 ∷ params) (value.I32 n ∷ values) call taken = let none : ⊥ = cc in absurd none
arguments_onto-stack passed (I32 ∷ params) (value.I32 n ∷ values) call taken =
    sym (onto_taken (value.I32 n) passed values) ∙ arguments_onto-stack (value.I32 n ∷ passed) params values call taken
arguments_onto-stack passed (I64 ∷ params) (value.I64 n ∷ values) call taken =
    sym (onto_taken (value.I64 n) passed values) ∙ arguments_onto-stack (value.I64 n ∷ passed) params values call taken

module _ {H E : Type 0} (host : Host H E) (m : Module) where
  -- From a state to a configuration, where that is the end of main.
  abbrev DoneTo : State H → Configuration H E → Type 0
  DoneTo before (Ended Done h) = LeavesValues host m before h
  DoneTo before _ = Unit {0}

  -- The frame of main is left, and nothing is behind it.
  after_return_done : (values : List Value) (frame : Frame) (frames : List Frame) (store : Store H) (locals : List Value) (body : Sequence) →
      Rule host m store frame.locals (single (Framed frame.arity locals body)) store frame.locals (stack values) → FramesStand m (frame ∷ frames) →
      DoneTo (under_frames store locals body (frame ∷ frames)) (after_return host m frame frames values store)
  after_return_done values frame [] store locals body r (no_rest, no_labels) = record {
    after = whole host m frame.labels [] store frame.locals (join (stack (values ++ frame.values)) (plain frame.rest));
    values = values ++ frame.values;
    rewritten = leaves host m frame.labels [] values frame.values frame.rest r;
    alone = ap (under_labels (join (stack (values ++ frame.values)) (plain frame.rest))) no_labels ∙
        ap (λ rest. join (stack (values ++ frame.values)) (plain rest)) no_rest ∙ join-empty (stack (values ++ frame.values));
    reached = refl;
  }
  after_return_done values frame (caller ∷ frames) store locals body r stand = tt

  -- The end of a function.
  end_of_function_done : (values : List Value) (frames : List Frame) (store : Store H) (locals : List Value) (stuck : Configuration H E) →
      ((before : State H) → DoneTo before stuck) → FramesStand m frames →
      DoneTo (under_frames store locals (stack values) frames) (end_of_function host m values frames store stuck)
  end_of_function_done values [] store locals stuck never stand = never (under_frames store locals (stack values) [])
  end_of_function_done values (frame ∷ frames) store locals stuck never stand =
      let before = under_frames store locals (stack values) (frame ∷ frames) in
      cond-cases (DoneTo before) (nat_eq frame.arity (length values)) (after_return host m frame frames values store) stuck
      (λ all. after_return_done values frame frames store locals (stack values)
      (rule.frame_end store frame.locals frame.arity locals values (eqb-true frame.arity (length values) all)) stand)
      (never before)

  -- The end of a block ends no run.
  end_of_code_done : (values : List Value) (labels : List Label) (at : Setting H) → FramesStand m at.frames →
      DoneTo (under_frames at.store at.locals (under_labels (stack values) labels) at.frames) (end_of_code host m values labels at)
  end_of_code_done values [] at stand = end_of_function_done values at.frames at.store at.locals (Stuck [] at) (λ before. tt) stand
  end_of_code_done values (label ∷ labels) at stand = tt

  -- A return.
  return_step_done : (values : List Value) (frames : List Frame) (store : Store H) (locals : List Value) (body : Sequence)
      (stuck : Configuration H E) → ((arity : ℕ) (outer : List Value) → arity ≤ length values →
      Rule host m store outer (single (Framed arity locals body)) store outer (stack (take arity values))) →
      ((before : State H) → DoneTo before stuck) → FramesStand m frames →
      DoneTo (under_frames store locals body frames) (return_step host m values frames store stuck)
  return_step_done values [] store locals body stuck leave never stand = never (under_frames store locals body [])
  return_step_done values (frame ∷ frames) store locals body stuck leave never stand =
      let before = under_frames store locals body (frame ∷ frames) in
      cond-cases (DoneTo before) (nat_le frame.arity (length values)) (after_return host m frame frames (take frame.arity values) store) stuck
      (λ enough. after_return_done (take frame.arity values) frame frames store locals body
      (leave frame.arity frame.locals (leb-true frame.arity (length values) enough)) stand)
      (never before)

  module _ (n : ℕ) (values : List Value) (at : Setting H) (stuck : Configuration H E) (never : (before : State H) → DoneTo before stuck)
      (stand : FramesStand m at.frames) where
    -- A branch past all labels.
    branch_step_done : (k j : ℕ) (body : Sequence) (labels : List Label) → n ≡ j + k →
        ((count : ℕ) → InLabels (on_stack (take count values) (Plain (Br n))) j body) →
        DoneTo (under_frames at.store at.locals (under_labels body labels) at.frames) (branch_step host m k values labels at stuck)
    branch_step_done zero j body [] passed stands =
        let all : j ≡ n = omega (arith, passed) in
        return_step_done values at.frames at.store at.locals body stuck
        (λ arity outer enough. rule.branch_out at.store outer arity at.locals body n (take arity values) (take-length arity values enough)
        (subst (λ k. InLabels (on_stack (take arity values) (Plain (Br n))) k body) all (stands arity)))
        never stand
    branch_step_done (suc k) j body [] passed stands = never (under_frames at.store at.locals body at.frames)
    branch_step_done zero j body (label ∷ labels) passed stands =
        let before = under_frames at.store at.locals (under_labels body (label ∷ labels)) at.frames in
        cond-cases (DoneTo before) (nat_le label.arity (length values)) _ stuck (λ enough. tt) (never before)
    branch_step_done (suc k) j body (label ∷ labels) passed stands =
        branch_step_done k (suc j) (join (stack label.values) (Then (Labelled label.arity label.continuation body) (plain label.rest))) labels
        (omega (arith, passed))
        (λ count. inside.in_one label.values label.arity label.continuation (plain label.rest) j body (stands count))

  module _ (rest : List Instr) (values : List Value) (at : Setting H) where
    -- The state before an instruction.
    abbrev running : Instr → State H
    running i = in_setting (join (stack values) (plain (i ∷ rest))) at

    abbrev stepped : Instr → Configuration H E
    stepped i = step host m (Running (i ∷ rest) values at)

    -- What leaves no function ends no run.
    stays_done : (i : Instr) → Stays i → DoneTo (running i) (stepped i)
    stays_done i stays = instr_step-kept host m (DoneTo (running i)) rest at (Trapped (i ∷ rest) at) (Stuck (i ∷ rest) at) tt i values (record {
      traps = λ _. tt;
      goes = λ values locals memory globals. tt;
      jumps = λ k values _. tt;
      calls = λ f values. tt;
      enters = λ label inside _. tt;
      branches = λ k values same. absurd (subst Stays same stays);
      returns = λ values same. absurd (subst Stays same stays);
    })

    branch_done : (k : ℕ) → FramesStand m at.frames → DoneTo (running (Br k)) (stepped (Br k))
    branch_done k stand = branch_step_done k values at (Stuck (Br k ∷ rest) at) (λ before. tt) stand k 0
        (join (stack values) (plain (Br k ∷ rest))) at.labels (sym (zero-add k)) (in_no_label (Br k) values rest)

    return_done : FramesStand m at.frames → DoneTo (running Return) (stepped Return)
    return_done stand =
        let code = join (stack values) (plain (Return ∷ rest)) in
        return_step_done values at.frames at.store at.locals (under_labels code at.labels) (Stuck (Return ∷ rest) at)
        (λ arity outer enough. let (k, stands) = in_all_labels (on_stack (take arity values) (Plain Return)) 0 code at.labels (in_no_label Return values rest arity) in
        rule.return_out at.store outer arity at.locals (under_labels code at.labels) k (take arity values) (take-length arity values enough) stands)
        (λ before. tt) stand

    running_done : (i : Instr) → FramesStand m at.frames → Stays i ⊎ (((k : ℕ) × (i ≡ Br k)) ⊎ (i ≡ Return)) → DoneTo (running i) (stepped i)
    running_done i stand (inl stays) = stays_done i stays
    running_done i stand (inr (inl (k, same))) = subst (λ i. DoneTo (running i) (stepped i)) (sym same) (branch_done k stand)
    running_done i stand (inr (inr same)) = subst (λ i. DoneTo (running i) (stepped i)) (sym same) (return_done stand)

  module _ (f : ℕ) (rest : List Instr) (at : Setting H) (stuck : Configuration H E) (never : (before : State H) → DoneTo before stuck)
      (stand : StandsBehind m at.frames rest at.labels) where
    -- The state before a call's rule.
    abbrev invoking : Arguments → State H
    invoking call = in_setting (join (stack call.below) (join (join (constants call.passed) (single (Invoke f))) (plain rest))) at

    -- Main is an import.
    after_call_done : (s : Store H) (frames : List Frame) (call : Arguments) (values : List Value) →
        Rule host m at.store at.locals (join (constants call.passed) (single (Invoke f))) s at.locals (stack values) →
        at.frames ≡ frames → StandsBehind m frames rest at.labels →
        DoneTo (invoking call) (after_call host m frames rest (values ++ call.below) (record at { store = s }))
    after_call_done s [] call values r same (no_rest, no_labels) =
        let code = join (stack (values ++ call.below)) (plain rest) in record {
          after = whole host m at.labels at.frames s at.locals code;
          values = values ++ call.below;
          rewritten = leaves host m at.labels at.frames values call.below rest r;
          alone = ap (λ frames. (under_frames s at.locals (under_labels code at.labels) frames).code) same ∙ ap (under_labels code) no_labels ∙
              ap (λ rest. join (stack (values ++ call.below)) (plain rest)) no_rest ∙ join-empty (stack (values ++ call.below));
          reached = ap (λ frames. (under_frames s at.locals (under_labels code at.labels) frames).store.host) same;
        }
    after_call_done s (frame ∷ frames) call values r same behind = tt

    after_reply_done : (import : Import) (number : ℕ) (ty : FuncType) (row : ℕ) (call : Arguments) (reply : Reply H E) →
        slice_get (functions m) f ≡ Some (Imported import number) → slice_get m.types number ≡ Some ty →
        types call.passed ≡ ty.params → host.row import.«module» import.name ty ≡ Some row →
        reply_of host row call.passed at.store ≡ reply →
        DoneTo (invoking call) (after_reply host m reply ty call.below rest at stuck)
    after_reply_done import number ty row call (Stops h reason) is typed all found replies = tt
    after_reply_done import number ty row call (Goes h result) is typed all found replies =
        if_some-cases (DoneTo (invoking call)) (results ty.results result) stuck _ (never (invoking call)) (λ values given.
        after_call_done (with_host h at.store) at.frames call values
        (subst (Rule host m at.store at.locals (join (constants call.passed) (single (Invoke f))) (with_host h at.store) at.locals)
        (constants-results ty.results result values given)
        (rule.invoke_import at.store at.locals f import number ty row call.passed h result values is typed all found replies given))
        refl stand)

    invocation_of_done : (function : Function) (ty : FuncType) (call : Arguments) → slice_get (functions m) f ≡ Some function →
        slice_get m.types (type_number function) ≡ Some ty → types call.passed ≡ ty.params →
        DoneTo (invoking call) (invocation_of host m f function ty call rest at stuck)
    invocation_of_done (Imported import number) ty call is typed all =
        if_some-cases (DoneTo (invoking call)) (host.row import.«module» import.name ty) stuck _ (never (invoking call)) (λ row found.
        after_reply_done import number ty row call (reply_of host row call.passed at.store) is typed all found refl)
    invocation_of_done (Defined func) ty call is typed all = tt

    -- The arguments stand before the call.
    call_done : (ty : FuncType) (values : List Value) (call : Arguments) (c : Configuration H E) → arguments ty.params values ≡ Some call →
        DoneTo (invoking call) c → DoneTo (in_setting (join (stack values) (Then (Invoke f) (plain rest))) at) c
    call_done ty values call c taken done =
        subst (λ code. DoneTo (in_setting code at) c)
        (sym (arguments_onto-join [] (reverse ty.params) values call (Then (Invoke f) (plain rest)) taken ∙
        ap (join (stack call.below)) (sym (join-join (constants call.passed) (single (Invoke f)) (plain rest)))))
        done

    invocation_done : (values : List Value) →
        DoneTo (in_setting (join (stack values) (Then (Invoke f) (plain rest))) at) (invocation host m f rest values at stuck)
    invocation_done values =
        let before = in_setting (join (stack values) (Then (Invoke f) (plain rest))) at in
        if_some-cases (DoneTo before) (slice_get (functions m) f) stuck _ (never before) (λ function is.
        if_some-cases (DoneTo before) (slice_get m.types (type_number function)) stuck _ (never before) (λ ty typed.
        if_some-cases (DoneTo before) (arguments ty.params values) stuck _ (never before) (λ call taken.
        call_done ty values call _ taken (invocation_of_done function ty call is typed (passed-types host m ty values call taken)))))

  -- A state's end is its configuration's.
  running_end : (code : List Instr) (values : List Value) (at : Setting H) (c : Configuration H E) →
      DoneTo (in_setting (join (stack values) (plain code)) at) c → IsDoneStep host m (Running code values at) c
  running_end code values at (Ended Done h) done = done
  running_end code values at (Ended (Stopped reason) h) done = tt
  running_end code values at (Ended (Trap f k) h) done = tt
  running_end code values at (Ended More h) done = tt
  running_end code values at (Running code' values' at') done = tt
  running_end code values at (Calling f rest values' at') done = tt
  running_end code values at (Trapped code' at') done = tt
  running_end code values at (Stuck code' at') done = tt

  calling_end : (f : ℕ) (rest : List Instr) (values : List Value) (at : Setting H) (c : Configuration H E) →
      DoneTo (in_setting (join (stack values) (Then (Invoke f) (plain rest))) at) c → IsDoneStep host m (Calling f rest values at) c
  calling_end f rest values at (Ended Done h) done = done
  calling_end f rest values at (Ended (Stopped reason) h) done = tt
  calling_end f rest values at (Ended (Trap g k) h) done = tt
  calling_end f rest values at (Ended More h) done = tt
  calling_end f rest values at (Running code' values' at') done = tt
  calling_end f rest values at (Calling g rest' values' at') done = tt
  calling_end f rest values at (Trapped code' at') done = tt
  calling_end f rest values at (Stuck code' at') done = tt

  -- Each step.
  pub ends_leave_values : EndsLeaveValues host m
  ends_leave_values (Running [] values at) placed = running_end [] values at (end_of_code host m values at.labels at)
      (subst (λ code. DoneTo (in_setting code at) (end_of_code host m values at.labels at)) (sym (join-empty (stack values)))
      (end_of_code_done values at.labels at (frames_of m host at.frames [] at.labels placed)))
  ends_leave_values (Running (i ∷ rest) values at) placed = running_end (i ∷ rest) values at (step host m (Running (i ∷ rest) values at))
      (running_done rest values at i (frames_of m host at.frames (i ∷ rest) at.labels placed) (stays_or_leaves i))
  ends_leave_values (Calling f rest values at) placed = calling_end f rest values at (step host m (Calling f rest values at))
      (invocation_done f rest at (Stuck (Call f ∷ rest) at) (λ before. tt) placed values)
  ends_leave_values (Trapped code at) placed = tt
  ends_leave_values (Stuck code at) placed = tt
  ends_leave_values (Ended end h) placed = tt

  module _ (code : List Instr) (values : List Value) (at : Setting H) where
    -- An instruction's end is main's.
    abbrev Stopped_by : Configuration H E → Type 0
    Stopped_by c = IsStopStep host m (Running code values at) c

    after_return_stop : (others : List Value) (frame : Frame) (frames : List Frame) (store : Store H) →
        Stopped_by (after_return host m frame frames others store)
    after_return_stop others frame [] store = tt
    after_return_stop others frame (caller ∷ frames) store = tt

    end_of_function_stop : (others : List Value) (frames : List Frame) (store : Store H) (stuck : Configuration H E) → Stopped_by stuck →
        Stopped_by (end_of_function host m others frames store stuck)
    end_of_function_stop others [] store stuck otherwise = otherwise
    end_of_function_stop others (frame ∷ frames) store stuck otherwise =
        cond-cases Stopped_by (nat_eq frame.arity (length others)) _ stuck (λ _. after_return_stop others frame frames store) otherwise

    end_of_code_stop : (others : List Value) (labels : List Label) (here : Setting H) → Stopped_by (end_of_code host m others labels here)
    end_of_code_stop others [] here = end_of_function_stop others here.frames here.store (Stuck [] here) tt
    end_of_code_stop others (label ∷ labels) here = tt

    return_step_stop : (others : List Value) (frames : List Frame) (store : Store H) (stuck : Configuration H E) → Stopped_by stuck →
        Stopped_by (return_step host m others frames store stuck)
    return_step_stop others [] store stuck otherwise = otherwise
    return_step_stop others (frame ∷ frames) store stuck otherwise =
        cond-cases Stopped_by (nat_le frame.arity (length others)) _ stuck (λ _. after_return_stop (take frame.arity others) frame frames store) otherwise

    branch_step_stop : (k : ℕ) (others : List Value) (labels : List Label) (here : Setting H) (stuck : Configuration H E) → Stopped_by stuck →
        Stopped_by (branch_step host m k others labels here stuck)
    branch_step_stop zero others [] here stuck otherwise = return_step_stop others here.frames here.store stuck otherwise
    branch_step_stop (suc k) others [] here stuck otherwise = otherwise
    branch_step_stop zero others (label ∷ labels) here stuck otherwise =
        cond-cases Stopped_by (nat_le label.arity (length others)) _ stuck (λ _. tt) otherwise
    branch_step_stop (suc k) others (label ∷ labels) here stuck otherwise = branch_step_stop k others labels here stuck otherwise

  running_stop : (i : Instr) (rest : List Instr) (values : List Value) (at : Setting H) →
      IsStopStep host m (Running (i ∷ rest) values at) (step host m (Running (i ∷ rest) values at))
  running_stop i rest values at =
      let stuck : Configuration H E = Stuck (i ∷ rest) at in
      instr_step-kept host m (IsStopStep host m (Running (i ∷ rest) values at)) rest at (Trapped (i ∷ rest) at) stuck tt i values (record {
        traps = λ _. tt;
        goes = λ others locals memory globals. tt;
        jumps = λ k others _. tt;
        calls = λ f others. tt;
        enters = λ label inside _. tt;
        branches = λ k others _. branch_step_stop (i ∷ rest) values at k others at.labels at stuck tt;
        returns = λ others _. return_step_stop (i ∷ rest) values at others at.frames at.store stuck tt;
      })

  module _ (f : ℕ) (rest : List Instr) (values : List Value) (at : Setting H) where
    -- A call's end is main's, or the host's.
    abbrev Called : Configuration H E → Type 0
    Called c = IsStopStep host m (Calling f rest values at) c

    after_call_stop : (frames : List Frame) (others : List Value) (after : Setting H) → Called (after_call host m frames rest others after)
    after_call_stop [] others after = tt
    after_call_stop (frame ∷ frames) others after = tt

    after_reply_stop : (imported : Import) (number : ℕ) (ty : FuncType) (row : ℕ) (call : Arguments) (reply : Reply H E) →
        slice_get (functions m) f ≡ Some (Imported imported number) → slice_get m.types number ≡ Some ty → arguments ty.params values ≡ Some call →
        host.row imported.«module» imported.name ty ≡ Some row → reply_of host row call.passed at.store ≡ reply →
        Called (after_reply host m reply ty call.below rest at (Stuck (Call f ∷ rest) at))
    after_reply_stop imported number ty row call (Stops h reason) there typed taken found replies = record {
      imported = imported;
      number = number;
      ty = ty;
      row = row;
      passed = call.passed;
      below = call.below;
      there = there;
      typed = typed;
      on_top = arguments_onto-stack [] (reverse ty.params) values call taken;
      all = passed-types host m ty values call taken;
      found = found;
      replies = replies;
    }
    after_reply_stop imported number ty row call (Goes h result) there typed taken found replies =
        if_some-cases Called (results ty.results result) _ _ tt
        (λ given _. after_call_stop at.frames (given ++ call.below) (record at { store = with_host h at.store }))

    invocation_of_stop : (function : Function) (ty : FuncType) (call : Arguments) → slice_get (functions m) f ≡ Some function →
        slice_get m.types (type_number function) ≡ Some ty → arguments ty.params values ≡ Some call →
        Called (invocation_of host m f function ty call rest at (Stuck (Call f ∷ rest) at))
    invocation_of_stop (Imported imported number) ty call there typed taken =
        if_some-cases Called (host.row imported.«module» imported.name ty) _ _ tt (λ row found.
        after_reply_stop imported number ty row call (reply_of host row call.passed at.store) there typed taken found refl)
    invocation_of_stop (Defined func) ty call there typed taken = tt

    invocation_stop : Called (invocation host m f rest values at (Stuck (Call f ∷ rest) at))
    invocation_stop = if_some-cases Called (slice_get (functions m) f) _ _ tt (λ function there.
        if_some-cases Called (slice_get m.types (type_number function)) _ _ tt (λ ty typed.
        if_some-cases Called (arguments ty.params values) _ _ tt (λ call taken. invocation_of_stop function ty call there typed taken)))

  -- Each step.
  pub stops_are_replies : StopsAreReplies host m
  stops_are_replies (Running [] values at) = end_of_code_stop [] values at values at.labels at
  stops_are_replies (Running (i ∷ rest) values at) = running_stop i rest values at
  stops_are_replies (Calling f rest values at) = invocation_stop f rest values at
  stops_are_replies (Trapped code at) = tt
  stops_are_replies (Stuck code at) = tt
  stops_are_replies (Ended end h) = tt
