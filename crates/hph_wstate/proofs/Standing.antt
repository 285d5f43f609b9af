-- What the machine's parts stand for, before and after a change.
use Rattle.std.proofs.Common.{◌≡◌, ◌≢◌, ◌∙◌, ◌≤◌, ◌<◌, ◌+◌, ◌-◌, ℕ, zero, suc, List, [], ◌∷◌, ◌++◌, Bool, true, false, Some, None, length, take, drop, reverse, refl, sym, ap, subst, arith, add-one}
use Rattle.std.specs.Prelude.{slice_get}
use Rattle.std.proofs.Math.Seq.{take-add}
use Rattle.std.proofs.lemmas.List.{drop-drop, drop-take, length-take-le, length-drop}
use Rattle.std.proofs.lemmas.List.Sums.{sum_by-cons}
use Rattle.hph_wasm.specs.declared.instr.Instr.{Instr}
use Rattle.hph_wasm.specs.declared.value.Value.{Value}
use Rattle.hph_wasm.specs.declared.module.Func.{Func}
use Rattle.hph_wasm.specs.Values.{zero_values}
use Rattle.hph_wstate.specs.declared.layers.Side.{Side}
use Rattle.hph_wstate.specs.declared.layers.Side.TheVariants.{Loop}
use Rattle.hph_wstate.specs.Changes.{Outside, Skipped, Left, TellsLabel, LabelIs, TellsFrame, FunctionIs, code_outside}
use Rattle.hph_wstate.specs.Changes as reached
use Rattle.hph_wstate.specs.declared.layers.Entered.{Entered}
use Rattle.hph_wstate.specs.declared.layers.Caller.{Caller}
use Rattle.hph_wstate.specs.Core.{Core, Held, label_around, frame_around, labels_of, under, frames_of, continuation_of, code_behind, core_of, Counts}

pub loop_again : (here : List Instr) → continuation_of Loop here ++ drop 1 here ≡ here
loop_again [] = refl
loop_again (i ∷ here) = refl

-- ---- values and blocks

module _ (code : List Instr) (held : Held) (cs : List Caller) where
  pub value_given : (v : Value) (stack : List Value) (own : ℕ) (es : List Entered) (own_es : ℕ) →
      core_of code (v ∷ stack) (own + 1) es own_es held cs ≡
      record (core_of code stack own es own_es held cs) { values = v ∷ take own stack }
  value_given v stack own es own_es = rw add-one refl

  pub value_taken : (v : Value) (stack : List Value) (own : ℕ) (es : List Entered) (own_es : ℕ) → 1 ≤ own →
      core_of code (v ∷ stack) own es own_es held cs ≡
      record (core_of code stack (own - 1) es own_es held cs) { values = v ∷ take (own - 1) stack }
  value_taken v stack zero es own_es h = absurd (omega arith)
  value_taken v stack (suc own) es own_es h = let e : suc own - 1 ≡ own = omega arith in rw e refl

  pub block_entered : (body : List Instr) (stack : List Value) (e : Entered) (es : List Entered) (own_es : ℕ) →
      core_of body stack 0 (e ∷ es) (own_es + 1) held cs ≡
      record (core_of code stack e.saved es own_es held cs)
      { code = body; values = []; labels = label_around e.side e.gives e.here.now (take e.saved stack) ∷ labels_of (take own_es es) (drop e.saved stack) }
  block_entered body stack e es own_es = rw add-one refl

  pub block_left : (to : List Instr) (stack : List Value) (own : ℕ) (e : Entered) (es : List Entered) (own_es : ℕ) → 1 ≤ own_es →
      core_of to stack (own + e.saved) es (own_es - 1) held cs ≡ record (core_of code stack own (e ∷ es) own_es held cs) {
        code = to;
        values = take own stack ++ take e.saved (drop own stack);
        labels = labels_of (take (own_es - 1) es) (drop e.saved (drop own stack));
      }
  block_left to stack own e es zero h = absurd (omega arith)
  block_left to stack own e es (suc n) h = let p : suc n - 1 ≡ n = omega arith in
      rw (p, take-add own e.saved stack, ← drop-drop e.saved own stack) refl

  pub block_skipped : (stack : List Value) (own : ℕ) (e : Entered) (es : List Entered) (own_es : ℕ) → 1 ≤ own_es →
      core_of code (drop (own + e.saved) stack) 0 es (own_es - 1) held cs ≡ record (core_of code stack own (e ∷ es) own_es held cs) {
        values = [];
        labels = labels_of (take (own_es - 1) es) (drop e.saved (drop own stack));
      }
  block_skipped stack own e es zero h = absurd (omega arith)
  block_skipped stack own e es (suc n) h = let p : suc n - 1 ≡ n = omega arith in rw (p, ← drop-drop e.saved own stack) refl

  pub first_label : (stack : List Value) (own : ℕ) (e : Entered) (es : List Entered) (own_es : ℕ) → 1 ≤ own_es →
      (core_of code stack own (e ∷ es) own_es held cs).labels ≡
      label_around e.side e.gives e.here.now (take e.saved (drop own stack)) ∷ labels_of (take (own_es - 1) es) (drop e.saved (drop own stack))
  first_label stack own e es zero h = absurd (omega arith)
  first_label stack own e es (suc n) h = let p : suc n - 1 ≡ n = omega arith in rw p refl

  pub function_left : (stack : List Value) (own : ℕ) (es : List Entered) (c : Caller) →
      core_of c.rest.now stack (own + c.saved) es c.entered (record held { locals = c.locals }) cs ≡ record {
        code = c.rest.now;
        values = take own stack ++ take c.saved (drop own stack);
        locals = c.locals;
        labels = labels_of (take c.entered es) (drop c.saved (drop own stack));
        frames = frames_of cs (drop c.entered es) (under (take c.entered es) (drop c.saved (drop own stack)));
        memory = held.memory;
        globals = held.globals;
      }
  function_left stack own es c = rw (take-add own c.saved stack, ← drop-drop c.saved own stack) refl

  pub function_entered : (body : List Instr) (new : List Value) (stack : List Value) (own n : ℕ) (es : List Entered) (own_es : ℕ) (c : Caller) →
      n ≤ own → c.saved ≡ own - n → c.entered ≡ own_es →
      core_of body (drop n stack) 0 es 0 (record held { locals = new }) (c ∷ cs) ≡ record {
        code = body;
        values = [];
        locals = new;
        labels = [];
        frames = frame_around c (labels_of (take own_es es) (drop own stack)) (drop n (take own stack)) ∷
            frames_of cs (drop own_es es) (under (take own_es es) (drop own stack));
        memory = held.memory;
        globals = held.globals;
      }
  function_entered body new stack own n es own_es c h saved entered =
      let total : n + (own - n) ≡ own = omega arith in
      let rest : drop (own - n) (drop n stack) ≡ drop own stack = drop-drop (own - n) n stack ∙ ap (λ k. drop k stack) total in
      let top : take (own - n) (drop n stack) ≡ drop n (take own stack) =
      sym (drop-take n (own - n) stack) ∙ ap (λ k. drop n (take k stack)) total in
      rw (saved, entered, rest, top) refl

-- ---- counts

pub none_taken : (own : ℕ) (es : List Entered) (own_es : ℕ) (cs : List Caller) → Counts [] own es own_es cs → own ≡ 0
none_taken own es own_es cs counts = let h = counts.of_values in omega arith

pub counts_taken : (v : Value) (stack : List Value) (own : ℕ) (es : List Entered) (own_es : ℕ) (cs : List Caller) → 1 ≤ own →
    Counts (v ∷ stack) own es own_es cs → Counts stack (own - 1) es own_es cs
counts_taken v stack own es own_es cs h counts = record {
  of_values = let h2 = counts.of_values in omega arith;
  of_labels = counts.of_labels;
}

pub counts_given : (v : Value) (stack : List Value) (own : ℕ) (es : List Entered) (own_es : ℕ) (cs : List Caller) →
    Counts stack own es own_es cs → Counts (v ∷ stack) (own + 1) es own_es cs
counts_given v stack own es own_es cs counts = record {
  of_values = let h2 = counts.of_values in omega arith;
  of_labels = counts.of_labels;
}

pub counts_entered : (stack : List Value) (e : Entered) (es : List Entered) (own_es : ℕ) (cs : List Caller) →
    Counts stack e.saved es own_es cs → Counts stack 0 (e ∷ es) (own_es + 1) cs
counts_entered stack e es own_es cs counts = record {
  of_values = let h2 = counts.of_values in omega (arith, sum_by-cons (λ (x : Entered). x.saved) e es);
  of_labels = let h2 = counts.of_labels in omega arith;
}

pub counts_left : (stack : List Value) (own : ℕ) (e : Entered) (es : List Entered) (own_es : ℕ) (cs : List Caller) → 1 ≤ own_es →
    Counts stack own (e ∷ es) own_es cs → Counts stack (own + e.saved) es (own_es - 1) cs
counts_left stack own e es own_es cs h counts = record {
  of_values = let h2 = counts.of_values in omega (arith, sum_by-cons (λ (x : Entered). x.saved) e es);
  of_labels = let h2 = counts.of_labels in omega arith;
}

pub counts_skipped : (stack : List Value) (own : ℕ) (e : Entered) (es : List Entered) (own_es : ℕ) (cs : List Caller) → 1 ≤ own_es →
    Counts stack own (e ∷ es) own_es cs → Counts (drop (own + e.saved) stack) 0 es (own_es - 1) cs
counts_skipped stack own e es own_es cs h counts = record {
  of_values = let h2 = counts.of_values in omega (arith, sum_by-cons (λ (x : Entered). x.saved) e es, length-drop (own + e.saved) stack);
  of_labels = let h2 = counts.of_labels in omega arith;
}

pub counts_returned : (stack : List Value) (own : ℕ) (es : List Entered) (c : Caller) (cs : List Caller) →
    Counts stack own es 0 (c ∷ cs) → Counts stack (own + c.saved) es c.entered cs
counts_returned stack own es c cs counts = record {
  of_values = let h2 = counts.of_values in omega (arith, sum_by-cons (λ (x : Caller). x.saved) c cs);
  of_labels = let h2 = counts.of_labels in omega (arith, sum_by-cons (λ (x : Caller). x.entered) c cs);
}

pub counts_called : (stack : List Value) (own n : ℕ) (es : List Entered) (own_es : ℕ) (c : Caller) (cs : List Caller) → n ≤ own →
    c.saved ≡ own - n → c.entered ≡ own_es → Counts stack own es own_es cs → Counts (drop n stack) 0 es 0 (c ∷ cs)
counts_called stack own n es own_es c cs h saved entered counts = record {
  of_values = let h2 = counts.of_values in omega (arith, sum_by-cons (λ (x : Caller). x.saved) c cs, length-drop n stack);
  of_labels = let h2 = counts.of_labels in omega (arith, sum_by-cons (λ (x : Caller). x.entered) c cs);
}

pub length_labels : (es : List Entered) (below : List Value) → length (labels_of es below) ≡ length es
length_labels [] below = refl
length_labels (e ∷ es) below = ap suc (length_labels es (drop e.saved below))

module _ (stack : List Value) (own : ℕ) (es : List Entered) (own_es : ℕ) (cs : List Caller) (counts : Counts stack own es own_es cs) where
  pub few_own : own ≤ length stack
  few_own = let h = counts.of_values in omega arith

  few_labels : own_es ≤ length es
  few_labels = let h = counts.of_labels in omega arith

  pub values_counted : own ≡ length (take own stack)
  values_counted = sym (length-take-le own stack few_own)

  pub labels_counted : own_es ≡ length (labels_of (take own_es es) (drop own stack))
  labels_counted = sym (length_labels (take own_es es) (drop own stack) ∙ length-take-le own_es es few_labels)

-- ---- what the machine's calls tell

code_outside_as : (again : Bool) (side : Side) (gives : Bool) (here : List Instr) (values : List Value) →
    code_outside again (label_around side gives here values) ≡ code_behind again side here
code_outside_as true side gives here values = refl
code_outside_as false side gives here values = refl

module _ (code : List Instr) (held : Held) where
  pub skip_done : (cs : List Caller) (stack stack2 : List Value) (own : ℕ) (e : Entered) (es es0 : List Entered) (own_es : ℕ) → 1 ≤ own_es →
      es0 ≡ e ∷ es → stack2 ≡ drop (own + e.saved) stack →
      Skipped (core_of code stack own es0 own_es held cs) true (core_of code stack2 0 es (own_es - 1) held cs)
  skip_done cs stack stack2 own e es es0 own_es h p q = rw (p, q) (
    label_around e.side e.gives e.here.now (take e.saved (drop own stack)),
    labels_of (take (own_es - 1) es) (drop e.saved (drop own stack)),
    first_label code held cs stack own e es own_es h,
    block_skipped code held cs stack own e es own_es h,
  )

  pub outside_done : (cs : List Caller) (to : List Instr) (stack : List Value) (own : ℕ) (e : Entered) (es es0 : List Entered) (own_es : ℕ) (again : Bool) →
      1 ≤ own_es → es0 ≡ e ∷ es → to ≡ code_behind again e.side e.here.now →
      Outside (core_of code stack own es0 own_es held cs) again true (core_of to stack (own + e.saved) es (own_es - 1) held cs)
  outside_done cs to stack own e es es0 own_es again h p q =
      let way : to ≡ code_outside again (label_around e.side e.gives e.here.now (take e.saved (drop own stack))) =
      q ∙ sym (code_outside_as again e.side e.gives e.here.now (take e.saved (drop own stack))) in
      rw p (
        label_around e.side e.gives e.here.now (take e.saved (drop own stack)),
        labels_of (take (own_es - 1) es) (drop e.saved (drop own stack)),
        first_label code held cs stack own e es own_es h,
        block_left code held cs to stack own e es own_es h ∙ ap (λ (to : List Instr). record (core_of code stack own (e ∷ es) own_es held cs) {
          code = to;
          values = take own stack ++ take e.saved (drop own stack);
          labels = labels_of (take (own_es - 1) es) (drop e.saved (drop own stack));
        }) way,
      )

  pub left_done : (cs cs0 : List Caller) (stack : List Value) (own : ℕ) (es : List Entered) (own_es : ℕ) (c : Caller) (locals : List Value) → own_es ≡ 0 →
      cs0 ≡ c ∷ cs → locals ≡ c.locals →
      Left (core_of code stack own es own_es held cs0) true (core_of c.rest.now stack (own + c.saved) es c.entered (record held { locals = locals }) cs)
  left_done cs cs0 stack own es own_es c locals none p q = rw (none, p, q) (
    frame_around c (labels_of (take c.entered es) (drop c.saved (drop own stack))) (take c.saved (drop own stack)),
    frames_of cs (drop c.entered es) (under (take c.entered es) (drop c.saved (drop own stack))),
    refl,
    function_left code held cs stack own es c,
  )

take_front : {A : Type 0} (n m : ℕ) (xs : List A) → n ≤ m → take n (take m xs) ≡ take n xs
take_front zero m xs h = refl
take_front (suc n) zero xs h = absurd (omega arith)
take_front (suc n) (suc m) [] h = refl
take_front (suc n) (suc m) (x ∷ xs) h = ap (λ l. x ∷ l) (take_front n m xs (omega arith))

pub called_done : (func : Func) (held : Held) (new : List Value) (cs cs2 : List Caller) (stack stack2 : List Value) (own n : ℕ) (es : List Entered)
    (own_es : ℕ) (c : Caller) → n ≤ own → own ≤ length stack → c.saved ≡ own - n → c.entered ≡ own_es → c.locals ≡ held.locals →
    stack2 ≡ drop n stack → cs2 ≡ c ∷ cs → new ≡ reverse (take n stack) ++ zero_values func.locals →
    reached.Entered c.function c.gives n func (core_of c.rest.now stack own es own_es held cs) true
    (core_of func.body stack2 0 es 0 (record held { locals = new }) cs2)
called_done func held new cs cs2 stack stack2 own n es own_es c h few saved entered own_locals p q r =
    let all : length (take own stack) ≡ own = length-take-le own stack few in
    let new_is : new ≡ reverse (take n (take own stack)) ++ zero_values func.locals =
    r ∙ ap (λ l. reverse l ++ zero_values func.locals) (sym (take_front n own stack h)) in
    subst (λ l. reached.Entered c.function c.gives n func (core_of c.rest.now stack own es own_es (record held { locals = l }) cs) true
    (core_of func.body stack2 0 es 0 (record held { locals = new }) cs2))
    own_locals (
      omega arith,
      rw (p, q) (function_entered c.rest.now held cs func.body new stack own n es own_es c h saved entered ∙
          ap (λ (l : List Value). record {
            code = func.body;
            values = [];
            locals = l;
            labels = [];
            frames = frame_around c (labels_of (take own_es es) (drop own stack)) (drop n (take own stack)) ∷
                frames_of cs (drop own_es es) (under (take own_es es) (drop own stack));
            memory = held.memory;
            globals = held.globals;
          }) new_is),
    )

-- ---- labels and frames

pub frame_told : (cs : List Caller) (es : List Entered) (below : List Value) (c : Caller) → Some c ≡ slice_get cs 0 →
    TellsFrame (frames_of cs es below) (Some c.gives)
frame_told [] es below c e = let no : ⊥ = cc in absurd no
frame_told (d ∷ cs) es below c e = let same : c ≡ d = cc in
    rw same (
      frame_around d (labels_of (take d.entered es) (drop d.saved below)) (take d.saved below),
      frames_of cs (drop d.entered es) (under (take d.entered es) (drop d.saved below)),
      refl,
      refl,
    )

pub no_frame_told : (cs : List Caller) (es : List Entered) (below : List Value) → None ≡ slice_get cs 0 → frames_of cs es below ≡ []
no_frame_told [] es below e = refl
no_frame_told (d ∷ cs) es below e = let no : ⊥ = cc in absurd no

pub label_told : (own_es k : ℕ) (es : List Entered) (below : List Value) (e : Entered) → Some e ≡ slice_get es k → k < own_es →
    TellsLabel (labels_of (take own_es es) below) k (Some e.gives)
label_told zero k es below e at h = absurd (omega arith)
label_told (suc n) k [] below e at h = let no : ⊥ = cc in absurd no
label_told (suc n) zero (d ∷ es) below e at h = let same : e ≡ d = cc in
    rw same (label_around d.side d.gives d.here.now (take d.saved below), refl, refl)
label_told (suc n) (suc k) (d ∷ es) below e at h = label_told n k es (drop d.saved below) e at (omega arith)

pub label_found : (own_es k : ℕ) (es : List Entered) (below : List Value) (e : Entered) → Some e ≡ slice_get es k → k < own_es →
    LabelIs (labels_of (take own_es es) below) k (Some e)
label_found zero k es below e at h = absurd (omega arith)
label_found (suc n) k [] below e at h = let no : ⊥ = cc in absurd no
label_found (suc n) zero (d ∷ es) below e at h = let same : e ≡ d = cc in
    rw same (label_around d.side d.gives d.here.now (take d.saved below), refl, refl, refl)
label_found (suc n) (suc k) (d ∷ es) below e at h = label_found n k es (drop d.saved below) e at (omega arith)

pub function_found : (cs : List Caller) (es : List Entered) (below : List Value) (c : Caller) → Some c ≡ slice_get cs 0 →
    FunctionIs (frames_of cs es below) (Some c.function)
function_found [] es below c e = let no : ⊥ = cc in absurd no
function_found (d ∷ cs) es below c e = let same : c ≡ d = cc in
    rw same (
      frame_around d (labels_of (take d.entered es) (drop d.saved below)) (take d.saved below),
      frames_of cs (drop d.entered es) (under (take d.entered es) (drop d.saved below)),
      refl,
      refl,
    )

pub no_label_told : (es : List Entered) (k : ℕ) → None ≡ slice_get es k → length es ≤ k
no_label_told [] k e = omega arith
no_label_told (d ∷ es) zero e = let no : ⊥ = cc in absurd no
no_label_told (d ∷ es) (suc k) e = let h = no_label_told es k e in omega arith

-- ---- what is kept

pub one_kept : (v : Value) (values : List Value) → take 1 (v ∷ values) ≡ v ∷ []
one_kept v values = refl

module _ (stack : List Value) (own : ℕ) (es : List Entered) (own_es : ℕ) (cs : List Caller) (counts : Counts stack own es own_es cs) where
  pub no_label_done : (k : ℕ) → None ≡ slice_get es k → length (labels_of (take own_es es) (drop own stack)) ≤ k
  no_label_done k e =
      let same : own_es ≡ length (labels_of (take own_es es) (drop own stack)) = labels_counted stack own es own_es cs counts in
      let few : own_es ≤ length es = few_labels stack own es own_es cs counts in
      let past : length es ≤ k = no_label_told es k e in
      omega arith

  pub label_past_done : (k : ℕ) → own_es ≤ k → length (labels_of (take own_es es) (drop own stack)) ≤ k
  label_past_done k h =
      let same : own_es ≡ length (labels_of (take own_es es) (drop own stack)) = labels_counted stack own es own_es cs counts in
      omega arith

pub counts_returned_to : (stack : List Value) (own : ℕ) (es : List Entered) (own_es : ℕ) (c : Caller) (cs cs0 : List Caller) → own_es ≡ 0 →
    cs0 ≡ c ∷ cs → Counts stack own es own_es cs0 → Counts stack (own + c.saved) es c.entered cs
counts_returned_to stack own es own_es c cs cs0 none p counts =
    let h : Counts stack own es 0 (c ∷ cs) = subst (λ n. Counts stack own es n (c ∷ cs)) none (subst (λ l. Counts stack own es own_es l) p counts) in
    counts_returned stack own es c cs h

-- One more label is taken away.
pub skip_step : (first now next : Core) (k : ℕ) (r : Bool) → first.values ≡ [] → now ≡ record first { labels = drop k first.labels } →
    Skipped now r next → next ≡ record first { labels = drop (k + 1) first.labels }
skip_step first now next k true none e (label, labels, p, q) =
    let here : drop k first.labels ≡ label ∷ labels = sym (ap (λ (c : Core). c.labels) e) ∙ p in
    let rest : labels ≡ drop (k + 1) first.labels = ap (drop 1) (sym here) ∙ drop-drop 1 k first.labels in
    q ∙ (ap (λ (c : Core). record c { values = []; labels = labels }) e ∙
    (ap (λ v. record first { values = v; labels = labels }) (sym none) ∙ ap (λ l. record first { labels = l }) rest))
skip_step first now next k false none e (p, q) =
    let here : drop k first.labels ≡ [] = sym (ap (λ (c : Core). c.labels) e) ∙ p in
    let rest : drop k first.labels ≡ drop (k + 1) first.labels = here ∙ (ap (drop 1) (sym here) ∙ drop-drop 1 k first.labels) in
    q ∙ (e ∙ ap (λ l. record first { labels = l }) rest)

-- ---- values that are taken off

pub values_dropped : (code : List Instr) (held : Held) (cs : List Caller) (stack : List Value) (own n : ℕ) (es : List Entered) (own_es : ℕ) → n ≤ own →
    core_of code (drop n stack) (own - n) es own_es held cs ≡
    record (core_of code stack own es own_es held cs) { values = drop n (take own stack) }
values_dropped code held cs stack own n es own_es h =
    let total : n + (own - n) ≡ own = omega arith in
    let rest : drop (own - n) (drop n stack) ≡ drop own stack = drop-drop (own - n) n stack ∙ ap (λ k. drop k stack) total in
    let top : take (own - n) (drop n stack) ≡ drop n (take own stack) =
    sym (drop-take n (own - n) stack) ∙ ap (λ k. drop n (take k stack)) total in
    rw (rest, top) refl

pub counts_dropped : (stack : List Value) (own n : ℕ) (es : List Entered) (own_es : ℕ) (cs : List Caller) → n ≤ own →
    Counts stack own es own_es cs → Counts (drop n stack) (own - n) es own_es cs
counts_dropped stack own n es own_es cs h counts = record {
  of_values = let h2 = counts.of_values in omega (arith, length-drop n stack);
  of_labels = counts.of_labels;
}

pub discard_done : (code : List Instr) (held : Held) (cs : List Caller) (stack stack2 : List Value) (own n : ℕ) (es : List Entered) (own_es : ℕ) →
    n ≤ own → stack2 ≡ drop n stack → core_of code stack2 (own - n) es own_es held cs ≡
    record (core_of code stack own es own_es held cs) { values = drop n (take own stack) }
discard_done code held cs stack stack2 own n es own_es h e = rw e (values_dropped code held cs stack own n es own_es h)

pub within_own : (stack : List Value) (own n : ℕ) (es : List Entered) (own_es : ℕ) (cs : List Caller) → Counts stack own es own_es cs →
    n ≤ length (take own stack) → n ≤ own
within_own stack own n es own_es cs counts h = subst (λ k. n ≤ k) (sym (values_counted stack own es own_es cs counts)) h

-- ---- the top

pub top_seen : (own : ℕ) (stack : List Value) (v : Value) → Some v ≡ slice_get stack 0 → (own ≢ 0) → Some v ≡ slice_get (take own stack) 0
top_seen zero stack v e h = absurd (h refl)
top_seen (suc own) [] v e h = e
top_seen (suc own) (w ∷ stack) v e h = e

pub no_top : (own : ℕ) (stack : List Value) → None ≡ slice_get stack 0 → None ≡ slice_get (take own stack) 0
no_top zero stack e = refl
no_top (suc own) [] e = refl
no_top (suc own) (w ∷ stack) e = let no : ⊥ = cc in absurd no
