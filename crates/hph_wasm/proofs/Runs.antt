-- What holds of every run of a module: one that has ended stays so, no output is taken back, and no function that was entered.
use Rattle.std.proofs.Common.{◌≡◌, ◌≤◌, ℕ, zero, suc, zero-add, ◌+◌, ◌-◌, List, [], ◌∷◌, ◌++◌, map, length, take, refl, sym, ap, subst, ◌∙◌, arith, append_assoc, Option, Some, None}
use Rattle.std.proofs.lemmas.List.{append-nil}
use Rattle.std.specs.Prelude.{nat_eq, nat_le, slice_get, codes}
use Rattle.hph_wasm.specs.declared.instr.Instr.{Instr, Call}
use Rattle.hph_wasm.specs.declared.value.Value.{Value}
use Rattle.hph_wasm.specs.declared.types.FuncType.{FuncType}
use Rattle.hph_wasm.specs.declared.module.Module.{Module}
use Rattle.hph_wasm.specs.Values.{number_of}
use Rattle.hph_wasm.specs.Functions.{Function, Imported, Defined, functions, type_number}
use Rattle.hph_wasm.specs.Outcome.{IsOver, IsPrefix}
use Rattle.hph_wasm.specs.Configuration.{Reply, Goes, Stops, Host, Label, Frame, Store, Setting, Configuration, Running, Calling, Trapped, Stuck, Ended}
use Rattle.hph_wasm.specs.Reduction.{Arguments, arguments, results, reply_of, with_host, after_call, after_return, end_of_function, end_of_code, return_step, branch_step, after_reply, invocation_of, invocation, step, reduce}
use Rattle.hph_wasm.specs.Run.{start, outcome_of, run_from, wasm, entered, entered_in, invoked_from, invoked, exported_function, KeepsOutput, NeverTakesBack, IsEntering}
use Rattle.hph_wasm.specs.Agrees.{IsRun}
use Rattle.hph_wasm.proofs.Choices.{if_some-cases, cond-cases}
use Rattle.hph_wasm.proofs.Steps.{instr_step-kept}

-- A list begins with itself.
pub prefix_refl : (output : List ℕ) → IsPrefix output output
prefix_refl output = ([], sym (append-nil output))

-- What begins with that begins with what that begins with.
prefix_trans : (a b c : List ℕ) → IsPrefix a b → IsPrefix b c → IsPrefix a c
prefix_trans a b c (x, first) (y, second) = (x ++ y, second ∙ ap (λ l. l ++ y) first ∙ append_assoc a x y)

module _ {H E : Type 0} (host : Host H E) (m : Module) where
  -- Reductions in turn.
  pub reduce-add : (i j : ℕ) (c : Configuration H E) → reduce host m (i + j) c ≡ reduce host m j (reduce host m i c)
  reduce-add zero j c = ap (λ n. reduce host m n c) (zero-add j)
  reduce-add (suc i) j c =
      let next : suc i + j ≡ suc (i + j) = omega arith in ap (λ n. reduce host m n c) next ∙ reduce-add i j (step host m c)

  -- Where a run is over no reduction changes anything.
  step_over : (c : Configuration H E) → IsOver (outcome_of host m c) → step host m c ≡ c
  step_over (Running code values at) over = absurd (over refl)
  step_over (Calling f rest values at) over = absurd (over refl)
  step_over (Trapped code at) over = refl
  step_over (Stuck code at) over = refl
  step_over (Ended end h) over = refl

  -- The same of many reductions.
  reduce_over : (n : ℕ) (c : Configuration H E) → IsOver (outcome_of host m c) → reduce host m n c ≡ c
  reduce_over zero c over = refl
  reduce_over (suc n) c over = ap (reduce host m n) (step_over c over) ∙ reduce_over n c over

  -- A run that is over stays so.
  stays : (c : Configuration H E) (n k : ℕ) → IsOver (outcome_of host m (reduce host m n c)) → n ≤ k →
      outcome_of host m (reduce host m k c) ≡ outcome_of host m (reduce host m n c)
  stays c n k over within =
      let later : k ≡ n + (k - n) = omega arith in
      ap (outcome_of host m) (ap (λ k. reduce host m k c) later ∙ reduce-add n (k - n) c ∙ reduce_over (k - n) (reduce host m n c) over)

  module _ (keeps : NeverTakesBack host) where
    -- What a configuration shows goes on from that output.
    abbrev Shows : List ℕ → Configuration H E → Type 0
    Shows output c = IsPrefix output (outcome_of host m c).output

    -- What stands behind a call shows the output that is there.
    after_call_shows : (frames : List Frame) (rest : List Instr) (values : List Value) (at : Setting H) →
        Shows (host.output at.store.host) (after_call host m frames rest values at)
    after_call_shows [] rest values at = prefix_refl (host.output at.store.host)
    after_call_shows (frame ∷ frames) rest values at = prefix_refl (host.output at.store.host)

    -- The caller has the output that is there.
    after_return_shows : (values : List Value) (frame : Frame) (frames : List Frame) (store : Store H) →
        Shows (host.output store.host) (after_return host m frame frames values store)
    after_return_shows values frame frames store = after_call_shows frames frame.rest (values ++ frame.values)
        (record { locals = frame.locals; labels = frame.labels; frames = frames; store = store })

    -- The end of a function prints nothing.
    end_of_function_shows : (values : List Value) (frames : List Frame) (store : Store H) (stuck : Configuration H E) →
        Shows (host.output store.host) stuck → Shows (host.output store.host) (end_of_function host m values frames store stuck)
    end_of_function_shows values [] store stuck shown = shown
    end_of_function_shows values (frame ∷ frames) store stuck shown =
        cond-cases (Shows (host.output store.host)) (nat_eq frame.arity (length values)) (after_return host m frame frames values store) stuck
        (λ _. after_return_shows values frame frames store)
        shown

    -- The end of a block prints nothing.
    end_of_code_shows : (values : List Value) (labels : List Label) (at : Setting H) →
        Shows (host.output at.store.host) (end_of_code host m values labels at)
    end_of_code_shows values [] at = end_of_function_shows values at.frames at.store (Stuck [] at) (prefix_refl (host.output at.store.host))
    end_of_code_shows values (label ∷ labels) at = prefix_refl (host.output at.store.host)

    -- A return prints nothing.
    return_step_shows : (values : List Value) (frames : List Frame) (store : Store H) (stuck : Configuration H E) →
        Shows (host.output store.host) stuck → Shows (host.output store.host) (return_step host m values frames store stuck)
    return_step_shows values [] store stuck shown = shown
    return_step_shows values (frame ∷ frames) store stuck shown =
        cond-cases (Shows (host.output store.host)) (nat_le frame.arity (length values)) _ stuck
        (λ _. after_return_shows (take frame.arity values) frame frames store) shown

    -- Nor does a branch.
    branch_step_shows : (k : ℕ) (values : List Value) (labels : List Label) (at : Setting H) (stuck : Configuration H E) →
        Shows (host.output at.store.host) stuck → Shows (host.output at.store.host) (branch_step host m k values labels at stuck)
    branch_step_shows zero values [] at stuck shown = return_step_shows values at.frames at.store stuck shown
    branch_step_shows (suc k) values [] at stuck shown = shown
    branch_step_shows zero values (label ∷ labels) at stuck shown =
        cond-cases (Shows (host.output at.store.host)) (nat_le label.arity (length values)) _ stuck
        (λ _. prefix_refl (host.output at.store.host)) shown
    branch_step_shows (suc k) values (label ∷ labels) at stuck shown = branch_step_shows k values labels at stuck shown

    -- No instruction prints.
    running_shows : (i : Instr) (rest : List Instr) (values : List Value) (at : Setting H) →
        Shows (host.output at.store.host) (step host m (Running (i ∷ rest) values at))
    running_shows i rest values at =
        let same = prefix_refl (host.output at.store.host) in
        instr_step-kept host m (Shows (host.output at.store.host)) rest at (Trapped (i ∷ rest) at) (Stuck (i ∷ rest) at) same i values (record {
          traps = λ can. same;
          goes = λ values locals memory globals. same;
          jumps = λ k values one. same;
          calls = λ f values. same;
          enters = λ label inside entry. same;
          branches = λ k values _. branch_step_shows k values at.labels at (Stuck (i ∷ rest) at) same;
          returns = λ values _. return_step_shows values at.frames at.store (Stuck (i ∷ rest) at) same;
        })

    -- The call of an import shows the host's output.
    after_reply_shows : (reply : Reply H E) (ty : FuncType) (below : List Value) (rest : List Instr) (at : Setting H)
        (stuck : Configuration H E) → KeepsOutput host (host.output at.store.host) reply →
        Shows (host.output at.store.host) stuck → Shows (host.output at.store.host) (after_reply host m reply ty below rest at stuck)
    after_reply_shows (Goes h result) ty below rest at stuck kept shown =
        if_some-cases (Shows (host.output at.store.host)) (results ty.results result) stuck _ shown
        (λ values _. prefix_trans _ _ _ kept (after_call_shows at.frames rest (values ++ below) (record at { store = with_host h at.store })))
    after_reply_shows (Stops h reason) ty below rest at stuck kept shown = kept

    -- A function is entered with no output; an import only adds some.
    invocation_of_shows : (f : ℕ) (function : Function) (ty : FuncType) (call : Arguments) (rest : List Instr) (at : Setting H)
        (stuck : Configuration H E) →
        Shows (host.output at.store.host) stuck → Shows (host.output at.store.host) (invocation_of host m f function ty call rest at stuck)
    invocation_of_shows f (Imported import number) ty call rest at stuck shown =
        if_some-cases (Shows (host.output at.store.host)) (host.row import.«module» import.name ty) stuck _ shown
        (λ row _. after_reply_shows (reply_of host row call.passed at.store) ty call.below rest at stuck
        (keeps row at.store.host (map number_of call.passed) at.store.memory) shown)
    invocation_of_shows f (Defined func) ty call rest at stuck shown = prefix_refl (host.output at.store.host)

    -- The same with what is looked up.
    invocation_shows : (f : ℕ) (rest : List Instr) (values : List Value) (at : Setting H) (stuck : Configuration H E) →
        Shows (host.output at.store.host) stuck → Shows (host.output at.store.host) (invocation host m f rest values at stuck)
    invocation_shows f rest values at stuck shown =
        if_some-cases (Shows (host.output at.store.host)) (slice_get (functions m) f) stuck _ shown (λ function _.
        if_some-cases (Shows (host.output at.store.host)) (slice_get m.types (type_number function)) stuck _ shown (λ ty _.
        if_some-cases (Shows (host.output at.store.host)) (arguments ty.params values) stuck _ shown (λ call _.
        invocation_of_shows f function ty call rest at stuck shown)))

    -- A step only adds output.
    step_shows : (c : Configuration H E) → Shows (outcome_of host m c).output (step host m c)
    step_shows (Running [] values at) = end_of_code_shows values at.labels at
    step_shows (Running (i ∷ rest) values at) = running_shows i rest values at
    step_shows (Calling f rest values at) =
        invocation_shows f rest values at (Stuck (Call f ∷ rest) at) (prefix_refl (host.output at.store.host))
    step_shows (Trapped code at) = prefix_refl (host.output at.store.host)
    step_shows (Stuck code at) = prefix_refl (host.output at.store.host)
    step_shows (Ended end h) = prefix_refl (host.output h)

    -- So do many.
    reduce_shows : (n : ℕ) (c : Configuration H E) → Shows (outcome_of host m c).output (reduce host m n c)
    reduce_shows zero c = prefix_refl (outcome_of host m c).output
    reduce_shows (suc n) c = prefix_trans _ _ _ (step_shows c) (reduce_shows n (step host m c))

    -- Output only grows.
    grows : (c : Configuration H E) (n k : ℕ) → n ≤ k →
        IsPrefix (outcome_of host m (reduce host m n c)).output (outcome_of host m (reduce host m k c)).output
    grows c n k within =
        let later : k ≡ n + (k - n) = omega arith in
        subst (Shows (outcome_of host m (reduce host m n c)).output) (sym (ap (λ k. reduce host m k c) later ∙ reduce-add n (k - n) c))
        (reduce_shows (k - n) (reduce host m n c))

    -- The same where there may be no main.
    from_is_run : (state : H) (main : Option ℕ) → IsRun (λ n. run_from host state m main n)
    from_is_run state None = record { stays = λ n k over within. refl; grows = λ n k within. prefix_refl (host.output state) }
    from_is_run state (Some f) = record { stays = stays (start state m f); grows = grows (start state m f) }

    -- A module's runs.
    pub wasm_is_run : (state : H) → IsRun (wasm host state m)
    wasm_is_run state = from_is_run state (exported_function (codes "main") m.exports)

module _ {H E : Type 0} (host : Host H E) (m : Module) where
  -- What many reductions enter is what the first ones enter, and the ones behind them.
  entered_in-add : (i j : ℕ) (c : Configuration H E) →
      entered_in host m (i + j) c ≡ entered_in host m i c ++ entered_in host m j (reduce host m i c)
  entered_in-add zero j c = ap (λ n. entered_in host m n c) (zero-add j)
  entered_in-add (suc i) j c =
      let next : suc i + j ≡ suc (i + j) = omega arith in
      ap (λ n. entered_in host m n c) next ∙ ap (λ l. entered m c (step host m c) ++ l) (entered_in-add i j (step host m c)) ∙
      sym (append_assoc (entered m c (step host m c)) (entered_in host m i (step host m c)) (entered_in host m j (reduce host m i (step host m c))))

  -- Where a run is over a step enters nothing.
  entered-over : (c after : Configuration H E) → IsOver (outcome_of host m c) → entered m c after ≡ []
  entered-over (Running code values at) after over = absurd (over refl)
  entered-over (Calling f rest values at) after over = absurd (over refl)
  entered-over (Trapped code at) after over = refl
  entered-over (Stuck code at) after over = refl
  entered-over (Ended end h) after over = refl

  -- So do many.
  entered_in-over : (n : ℕ) (c : Configuration H E) → IsOver (outcome_of host m c) → entered_in host m n c ≡ []
  entered_in-over zero c over = refl
  entered_in-over (suc n) c over =
      let same = step_over host m c over in
      ap (λ l. l ++ entered_in host m n (step host m c)) (entered-over c (step host m c) over) ∙
      ap (entered_in host m n) same ∙ entered_in-over n c over

  -- What is entered from a configuration on.
  entering_from : (c : Configuration H E) → IsEntering (λ n. outcome_of host m (reduce host m n c)) (λ n. entered_in host m n c)
  entering_from c = record {
    grows = λ n k within.
        let later : k ≡ n + (k - n) = omega arith in
        (entered_in host m (k - n) (reduce host m n c), ap (λ k. entered_in host m k c) later ∙ entered_in-add n (k - n) c);
    stays = λ n k over within.
        let later : k ≡ n + (k - n) = omega arith in
        ap (λ k. entered_in host m k c) later ∙ entered_in-add n (k - n) c ∙
        ap (λ l. entered_in host m n c ++ l) (entered_in-over (k - n) (reduce host m n c) over) ∙ append-nil (entered_in host m n c);
  }

  -- The same where there may be no main.
  from_is_entering : (state : H) (main : Option ℕ) → IsEntering (λ n. run_from host state m main n) (λ n. invoked_from host state m main n)
  from_is_entering state None = record { grows = λ n k within. prefix_refl []; stays = λ n k over within. refl }
  from_is_entering state (Some f) = entering_from (start state m f)

  -- What a module's run enters.
  pub invoked_is_entering : (state : H) → IsEntering (wasm host state m) (invoked host state m)
  invoked_is_entering state = from_is_entering state (exported_function (codes "main") m.exports)
