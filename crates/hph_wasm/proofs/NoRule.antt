-- Where a step is stuck, no rule applies: neither to the instructions that run, nor to the labels and frames around them.
use Rattle.std.proofs.Common.{◌≡◌, ◌≤◌, inl, inr, ℕ, zero, suc, zero-add, ◌+◌, List, [], ◌∷◌, ◌++◌, length, length-append, take, refl, sym, ap, subst, ◌∙◌, arith, true, false}
use Rattle.std.specs.Prelude.{IfSome, nat_eq, nat_le, slice_get}
use Rattle.std.proofs.lemmas.Bool.{le-leb, eq-eqb}
use Rattle.hph_wasm.specs.declared.instr.Instr.{Instr, Br, Call}
use Rattle.hph_wasm.specs.declared.types.FuncType.{FuncType}
use Rattle.hph_wasm.specs.declared.value.Value.{Value}
use Rattle.hph_wasm.specs.declared.module.Module.{Module}
use Rattle.hph_wasm.specs.Functions.{Function, Imported, Defined, functions, type_number}
use Rattle.hph_wasm.specs.Configuration.{Host, Label, Frame, Store, Setting, Configuration, Running, Calling, Trapped, Stuck, Ended}
use Rattle.hph_wasm.specs.Reduction.{arguments, results, with_host, after_call, after_return, end_of_function, end_of_code, return_step, branch_step, instr_step, after_reply, invocation_of, invocation, step}
use Rattle.hph_wasm.specs.Sequences.{Administrative, Plain, Constant, Invoke, Labelled, Framed, Sequence, Empty, Then, join, plain, constants, stack, on_stack, InLabels}
use Rattle.hph_wasm.specs.Sequences as inside
use Rattle.hph_wasm.specs.Rewriting.{Rewrites, State, under_labels, under_frames, RewritesTo}
use Rattle.hph_wasm.specs.Ending.{IsStuckStep, StuckIsFinal}
use Rattle.hph_wasm.proofs.Choices.{if_some-there, cond-true, cond-either}
use Rattle.hph_wasm.proofs.SequenceLaws.{join-empty, on_top}
use Rattle.hph_wasm.proofs.Fronts.{IsFront, front-same, no_front}
use Rattle.hph_wasm.proofs.RuleViews.{Leaves, by_branch, by_return, Invoked, Acts}
use Rattle.hph_wasm.proofs.RuleOutcomes.{View, at_front, within_label, within_frame, view, acts_at, stack_not_rewritten, in_labels_no_stack}
use Rattle.hph_wasm.proofs.BothSteps.{NotStuck, goes_as_alone, trap_not_stuck, call_of, arguments_given}

-- An instruction is next behind these values, inside so many labels.
data IsNext (values : List Value) (i : Instr) : ℕ → Sequence → Type 0 where
  here : (rest : Sequence) → IsNext values i 0 (join (stack values) (Then (Plain i) rest))
  in_one : (outer : List Value) (arity : ℕ) (continuation : List Instr) (rest : Sequence) (j : ℕ) (body : Sequence) → IsNext values i j body →
      IsNext values i (suc j) (join (stack outer) (Then (Labelled arity continuation body) rest))

-- What stands in the labels of the same sequence is this instruction, with some of these values.
next_same : (values top : List Value) (i i' : Instr) (j k : ℕ) (body body' : Sequence) → IsNext values i j body →
    InLabels (on_stack top (Plain i')) k body' → body ≡ body' → (i ≡ i') × (j ≡ k) × (below : List Value) × (values ≡ top ++ below)
next_same values top i i' _ _ _ _ (here rest) (inside.here below rest') same =
    let (stacks, first, behind) = front-same values (top ++ below) (Plain i) (Plain i') rest rest' tt tt (same ∙ on_top top below (Plain i') rest') in
    let alike : i ≡ i' = cc in (alike, refl, below, stacks)
next_same values top i i' _ _ _ _ (here rest) (inside.in_one others arity continuation rest' k body stands) same =
    let (stacks, first, behind) = front-same values others (Plain i) (Labelled arity continuation body) rest rest' tt tt same in
    let none : ⊥ = cc in absurd none
next_same values top i i' _ _ _ _ (in_one outer arity continuation rest j body next) (inside.here below rest') same =
    let (stacks, first, behind) = front-same outer (top ++ below) (Labelled arity continuation body) (Plain i') rest rest' tt tt
    (same ∙ on_top top below (Plain i') rest') in
    let none : ⊥ = cc in absurd none
next_same values top i i' _ _ _ _ (in_one outer arity continuation rest j body next) (inside.in_one others arity' continuation' rest' k body' stands) same =
    let (stacks, first, behind) = front-same outer others (Labelled arity continuation body) (Labelled arity' continuation' body') rest rest' tt tt same in
    let alike : body ≡ body' = cc in
    let (instruction, number, below, split) = next_same values top i i' j k body body' next stands alike in
    (instruction, ap suc number, below, split)

-- It is no value.
next_no_stack : (values given : List Value) (i : Instr) (j : ℕ) (body : Sequence) → IsNext values i j body → body ≡ stack given → ⊥
next_no_stack values given i _ _ (here rest) same = no_front given values (Plain i) rest tt (sym same)
next_no_stack values given i _ _ (in_one outer arity continuation rest j body next) same =
    no_front given outer (Labelled arity continuation body) rest tt (sym same)

-- No instruction of a program is next in labels, and it isn't values alone.
abbrev Closed : Sequence → Type 0
Closed code = ((top : List Value) (i : Instr) (k : ℕ) → InLabels (on_stack top (Plain i)) k code → ⊥) × ((given : List Value) → code ≡ stack given → ⊥)

-- What is neither an instruction of a program nor a label.
abbrev IsCall : Administrative → Type 0
IsCall (Invoke f) = Unit {0}
IsCall (Framed arity locals body) = Unit {0}
IsCall _ = ⊥

is_front : (x : Administrative) → IsCall x → IsFront x
is_front (Plain i) is = absurd is
is_front (Constant v) is = absurd is
is_front (Invoke f) is = tt
is_front (Labelled arity continuation body) is = absurd is
is_front (Framed arity locals body) is = tt

closed_labels : (values top : List Value) (x : Administrative) (rest : Sequence) → IsCall x → (i : Instr) (k : ℕ) (code : Sequence) →
    InLabels (on_stack top (Plain i)) k code → join (stack values) (Then x rest) ≡ code → ⊥
closed_labels values top x rest is i _ _ (inside.here below rest') same =
    let (stacks, first, behind) = front-same values (top ++ below) x (Plain i) rest rest' (is_front x is) tt (same ∙ on_top top below (Plain i) rest') in
    subst IsCall first is
closed_labels values top x rest is i _ _ (inside.in_one others arity continuation rest' k body stands) same =
    let (stacks, first, behind) = front-same values others x (Labelled arity continuation body) rest rest' (is_front x is) tt same in
    subst IsCall first is

closed_call : (values : List Value) (x : Administrative) (rest : Sequence) → IsCall x → Closed (join (stack values) (Then x rest))
closed_call values x rest is = (
  λ top i k stands. closed_labels values top x rest is i k (join (stack values) (Then x rest)) stands refl,
  λ given same. no_front given values x rest (is_front x is) (sym same),
)

-- Inside a label neither.
label_closed : (outer top : List Value) (arity : ℕ) (continuation : List Instr) (body rest : Sequence) → Closed body → (i : Instr) (k : ℕ) (code : Sequence) →
    InLabels (on_stack top (Plain i)) k code → join (stack outer) (Then (Labelled arity continuation body) rest) ≡ code → ⊥
label_closed outer top arity continuation body rest closed i _ _ (inside.here below rest') same =
    let (stacks, first, behind) = front-same outer (top ++ below) (Labelled arity continuation body) (Plain i) rest rest' tt tt
    (same ∙ on_top top below (Plain i) rest') in
    cc
label_closed outer top arity continuation body rest closed i _ _ (inside.in_one others arity' continuation' rest' k body' stands) same =
    let (stacks, first, behind) = front-same outer others (Labelled arity continuation body) (Labelled arity' continuation' body') rest rest' tt tt same in
    let alike : body' ≡ body = cc in
    closed.0 top i k (subst (InLabels (on_stack top (Plain i)) k) alike stands)

closed_label : (outer : List Value) (arity : ℕ) (continuation : List Instr) (body rest : Sequence) → Closed body →
    Closed (join (stack outer) (Then (Labelled arity continuation body) rest))
closed_label outer arity continuation body rest closed = (
  λ top i k stands. label_closed outer top arity continuation body rest closed i k (join (stack outer) (Then (Labelled arity continuation body) rest)) stands refl,
  λ given same. no_front given outer (Labelled arity continuation body) rest tt (sym same),
)

-- Stacks of the same values.
stack-same : (values others : List Value) → stack values ≡ stack others → values ≡ others
stack-same values others same =
    (front-same values others (Invoke 0) (Invoke 0) Empty Empty tt tt (ap (λ code. join code (Then (Invoke 0) Empty)) same)).0

module _ {H E : Type 0} (host : Host H E) (m : Module) where
  -- No rule rewrites it.
  abbrev Blocked : Store H → List Value → Sequence → Type 0
  Blocked s locals code = (s' : Store H) (locals' : List Value) (becomes : Sequence) → Rewrites host m s locals code s' locals' becomes → ⊥

  -- No rule acts at a front.
  abbrev NoAct : Store H → List Value → List Value → Administrative → Sequence → Type 0
  NoAct s locals values x rest = (s' : Store H) (locals' : List Value) (becomes : Sequence) → Acts host m s locals values x rest s' locals' becomes → ⊥

  -- Nothing inside it is rewritten.
  abbrev Inside : Store H → List Value → Administrative → Type 0
  Inside s locals (Labelled arity continuation body) = Blocked s locals body
  Inside s locals (Framed arity inner body) = Blocked s inner body
  Inside s locals _ = Unit {0}

  viewed : (s s' : Store H) (locals locals' values : List Value) (x : Administrative) (rest code becomes : Sequence) → IsFront x →
      NoAct s locals values x rest → Inside s locals x → View host m s locals code s' locals' becomes → join (stack values) (Then x rest) ≡ code → ⊥
  viewed s s' locals locals' values x rest code becomes is none deep (at_front seen) same =
      let (stacks, first, behind) = front-same values seen.values x seen.first rest seen.rest is seen.front (same ∙ seen.split) in
      none s' locals' becomes (acts_at host m s s' locals locals' values seen.values x seen.first rest seen.rest becomes stacks first behind seen.acts)
  viewed s s' locals locals' values x rest code becomes is none deep (within_label others arity continuation body after behind split r _) same =
      let (stacks, first, back) = front-same values others x (Labelled arity continuation body) rest behind is tt (same ∙ split) in
      subst (Inside s locals) first deep s' locals' after r
  viewed s s' locals locals' values x rest code becomes is none deep (within_frame others arity inner inner' body after behind split r _ _) same =
      let (stacks, first, back) = front-same values others x (Framed arity inner body) rest behind is tt (same ∙ split) in
      subst (Inside s locals) first deep s' inner' after r

  blocked : (s : Store H) (locals values : List Value) (x : Administrative) (rest : Sequence) → IsFront x → NoAct s locals values x rest →
      Inside s locals x → Blocked s locals (join (stack values) (Then x rest))
  blocked s locals values x rest is none deep s' locals' becomes r =
      viewed s s' locals locals' values x rest (join (stack values) (Then x rest)) becomes is none deep
      (view host m s s' locals locals' (join (stack values) (Then x rest)) becomes r) refl

  -- A label round what is closed.
  label_blocked : (s : Store H) (locals outer : List Value) (arity : ℕ) (continuation : List Instr) (body rest : Sequence) → Closed body →
      Blocked s locals body → Blocked s locals (join (stack outer) (Then (Labelled arity continuation body) rest))
  label_blocked s locals outer arity continuation body rest closed deep =
      let none : NoAct s locals outer (Labelled arity continuation body) rest = λ s' locals' becomes acts. label_left acts in
      blocked s locals outer (Labelled arity continuation body) rest tt none deep where
        label_left : {s' : Store H} {locals' : List Value} {becomes : Sequence} →
            Acts host m s locals outer (Labelled arity continuation body) rest s' locals' becomes → ⊥
        label_left (_, _, inl (given, same, _)) = closed.1 given same
        label_left (_, _, inr (k, top, _, stands, _)) = closed.0 top (Br k) k stands

  -- A frame round what is closed.
  frame_blocked : (s : Store H) (locals inner outer : List Value) (arity : ℕ) (body rest : Sequence) → Closed body →
      Blocked s inner body → Blocked s locals (join (stack outer) (Then (Framed arity inner body) rest))
  frame_blocked s locals inner outer arity body rest closed deep =
      blocked s locals outer (Framed arity inner body) rest tt (λ s' locals' becomes acts. frame_left acts) deep where
        frame_left : {s' : Store H} {locals' : List Value} {becomes : Sequence} →
            Acts host m s locals outer (Framed arity inner body) rest s' locals' becomes → ⊥
        frame_left (_, _, inl (given, _, same, _)) = closed.1 given same
        frame_left (_, _, inr (i, k, top, _, _, stands, _)) = closed.0 top i k stands

  -- What is closed and blocked is so under labels.
  labels_closed : (s : Store H) (locals : List Value) (labels : List Label) (code : Sequence) → Closed code → Blocked s locals code →
      Closed (under_labels code labels) × Blocked s locals (under_labels code labels)
  labels_closed s locals [] code closed none = (closed, none)
  labels_closed s locals (label ∷ labels) code closed none =
      labels_closed s locals labels (join (stack label.values) (Then (Labelled label.arity label.continuation code) (plain label.rest)))
      (closed_label label.values label.arity label.continuation code (plain label.rest) closed)
      (label_blocked s locals label.values label.arity label.continuation code (plain label.rest) closed none)

  -- And under frames nothing is rewritten.
  frames_closed : (s : Store H) (locals : List Value) (frames : List Frame) (code : Sequence) → Closed code → Blocked s locals code →
      (after : State H) → RewritesTo host m (under_frames s locals code frames) after → ⊥
  frames_closed s locals [] code closed none after r = none after.store after.locals after.code r
  frames_closed s locals (frame ∷ frames) code closed none after r =
      let framed = join (stack frame.values) (Then (Framed frame.arity locals code) (plain frame.rest)) in
      let (outer, still) = labels_closed s frame.locals frame.labels framed
      (closed_call frame.values (Framed frame.arity locals code) (plain frame.rest) tt)
      (frame_blocked s frame.locals locals frame.values frame.arity code (plain frame.rest) closed none) in
      frames_closed s frame.locals frames (under_labels framed frame.labels) outer still after r

  -- A frame that isn't left is closed, so nothing outside is rewritten.
  frame_stays : (s : Store H) (locals : List Value) (frame : Frame) (frames : List Frame) (code : Sequence) →
      NoAct s frame.locals frame.values (Framed frame.arity locals code) (plain frame.rest) → Blocked s locals code →
      (after : State H) → RewritesTo host m (under_frames s locals code (frame ∷ frames)) after → ⊥
  frame_stays s locals frame frames code none deep after r =
      let framed = join (stack frame.values) (Then (Framed frame.arity locals code) (plain frame.rest)) in
      let (outer, still) = labels_closed s frame.locals frame.labels framed
      (closed_call frame.values (Framed frame.arity locals code) (plain frame.rest) tt)
      (blocked s frame.locals frame.values (Framed frame.arity locals code) (plain frame.rest) tt none deep) in
      frames_closed s frame.locals frames (under_labels framed frame.labels) outer still after r

  -- Behind a return the run goes on, or is over.
  after_return_goes : (values : List Value) (frame : Frame) (frames : List Frame) (store : Store H) →
      NotStuck (after_return host m frame frames values store)
  after_return_goes values frame [] store = tt
  after_return_goes values frame (caller ∷ frames) store = tt

  after_call_goes : (frames : List Frame) (rest : List Instr) (values : List Value) (at : Setting H) →
      NotStuck (after_call host m frames rest values at)
  after_call_goes [] rest values at = tt
  after_call_goes (frame ∷ frames) rest values at = tt

  -- An instruction whose step is stuck.
  module _ (i : Instr) (rest : List Instr) (values : List Value) (at : Setting H) (trap stuck : Configuration H E)
      (gone : NotStuck (instr_step host m i rest values at trap stuck) → ⊥) where
    -- No rule applies to it.
    plain_no_act : NoAct at.store at.locals values (Plain i) (plain rest)
    plain_no_act s' locals' becomes (c, made, _, _, _) =
        gone (subst (λ o. IfSome o (λ _. NotStuck (instr_step host m i rest values at trap stuck))) made
        (goes_as_alone host m rest at trap stuck i values))

    -- Labels that are left by a branch to the one with a number.
    abbrev branched : ℕ → List Label → Configuration H E
    branched k labels = branch_step host m k values labels at stuck

    -- It is no branch to this label with as many values as that takes.
    no_branch_to : (j : ℕ) (label : Label) (labels : List Label) → branched j at.labels ≡ branched zero (label ∷ labels) →
        (top below : List Value) → label.arity ≡ length top → values ≡ top ++ below → i ≡ Br j → ⊥
    no_branch_to j label labels walk top below long split same =
        let enough : label.arity ≤ length values = omega (arith, long, ap length split, length-append top below) in
        let goes : NotStuck (branched zero (label ∷ labels)) = cond-true NotStuck (nat_le label.arity (length values)) _ stuck
        (le-leb label.arity (length values) enough) tt in
        gone (subst (λ i. NotStuck (instr_step host m i rest values at trap stuck)) (sym same) (subst NotStuck (sym walk) goes))

    -- Labels stay where they are not branched to.
    labels_stay : (labels : List Label) (j : ℕ) (body : Sequence) → IsNext values i j body → Blocked at.store at.locals body →
        ((k : ℕ) → branched (j + k) at.labels ≡ branched k labels) →
        (n : ℕ) × IsNext values i n (under_labels body labels) × Blocked at.store at.locals (under_labels body labels) ×
        ((k : ℕ) → branched (n + k) at.labels ≡ branched k [])
    labels_stay [] j body next deep walk = (j, next, deep, walk)
    labels_stay (label ∷ labels) j body next deep walk =
        let wrapped = join (stack label.values) (Then (Labelled label.arity label.continuation body) (plain label.rest)) in
        labels_stay labels (suc j) wrapped (in_one label.values label.arity label.continuation (plain label.rest) j body next)
        (blocked at.store at.locals label.values (Labelled label.arity label.continuation body) (plain label.rest) tt (λ s' locals' becomes acts. left acts) deep)
        (λ k. ap (λ n. branched n at.labels) (further k) ∙ walk (suc k)) where
          further : (k : ℕ) → suc j + k ≡ j + suc k
          further k = omega arith

          here_to : (k : ℕ) → j ≡ k → branched k at.labels ≡ branched zero (label ∷ labels)
          here_to k same = let number : k ≡ j + 0 = omega (arith, same) in ap (λ n. branched n at.labels) number ∙ walk 0

          left : {s' : Store H} {locals' : List Value} {becomes : Sequence} →
              Acts host m at.store at.locals label.values (Labelled label.arity label.continuation body) (plain label.rest) s' locals' becomes → ⊥
          left (_, _, inl (given, same, _)) = next_no_stack values given i j body next same
          left (_, _, inr (k, top, long, stands, _)) =
              let (instruction, number, below, split) = next_same values top i (Br k) j k body body next stands refl in
              no_branch_to k label labels (here_to k number) top below long split instruction

    -- It leaves no frame that returns as many values.
    no_return : (frame : Frame) (frames : List Frame) → at.frames ≡ frame ∷ frames → (top below : List Value) → frame.arity ≡ length top →
        values ≡ top ++ below → NotStuck (return_step host m values at.frames at.store stuck)
    no_return frame frames is top below long split =
        let enough : frame.arity ≤ length values = omega (arith, long, ap length split, length-append top below) in
        subst (λ frames. NotStuck (return_step host m values frames at.store stuck)) (sym is)
        (cond-true NotStuck (nat_le frame.arity (length values)) _ stuck (le-leb frame.arity (length values) enough)
        (after_return_goes (take frame.arity values) frame frames at.store))

    frame_not_left : (frame : Frame) (frames : List Frame) → at.frames ≡ frame ∷ frames → (n : ℕ) (code : Sequence) → IsNext values i n code →
        ((k : ℕ) → branched (n + k) at.labels ≡ branched k []) →
        NoAct at.store frame.locals frame.values (Framed frame.arity at.locals code) (plain frame.rest)
    frame_not_left frame frames is n code next walk s' locals' becomes (_, _, inl (given, _, same, _)) = next_no_stack values given i n code next same
    frame_not_left frame frames is n code next walk s' locals' becomes (_, _, inr (i', k, top, leaves, long, stands, _)) =
        let (instruction, number, below, split) = next_same values top i i' n k code code next stands refl in
        let returned = no_return frame frames is top below long split in
        leave i' k leaves instruction number returned where
          out_of : (k : ℕ) → n ≡ k → branched k at.labels ≡ branched zero []
          out_of k same = let number : k ≡ n + 0 = omega (arith, same) in ap (λ n. branched n at.labels) number ∙ walk 0

          leave : (i' : Instr) (k : ℕ) → Leaves i' k → i ≡ i' → n ≡ k → NotStuck (return_step host m values at.frames at.store stuck) → ⊥
          leave _ _ (by_branch k) instruction number goes =
              gone (subst (λ i. NotStuck (instr_step host m i rest values at trap stuck)) (sym instruction) (subst NotStuck (sym (out_of k number)) goes))
          leave _ _ (by_return k) instruction number goes =
              gone (subst (λ i. NotStuck (instr_step host m i rest values at trap stuck)) (sym instruction) goes)

    -- So it isn't rewritten, inside its labels and frames.
    instr_stays : (frames : List Frame) → at.frames ≡ frames → (after : State H) →
        RewritesTo host m (under_frames at.store at.locals (under_labels (join (stack values) (plain (i ∷ rest))) at.labels) frames) after → ⊥
    instr_stays frames is after r =
        let body = join (stack values) (plain (i ∷ rest)) in
        let (n, next, deep, walk) = labels_stay at.labels 0 body (here (plain rest))
        (blocked at.store at.locals values (Plain i) (plain rest) tt plain_no_act tt) (λ k. ap (λ n. branched n at.labels) (zero-add k)) in
        in_frames frames is (under_labels body at.labels) n next deep walk after r where
          in_frames : (frames : List Frame) → at.frames ≡ frames → (code : Sequence) (n : ℕ) → IsNext values i n code → Blocked at.store at.locals code →
              ((k : ℕ) → branched (n + k) at.labels ≡ branched k []) → (after : State H) →
              RewritesTo host m (under_frames at.store at.locals code frames) after → ⊥
          in_frames [] is code n next deep walk after r = deep after.store after.locals after.code r
          in_frames (frame ∷ frames) is code n next deep walk after r =
              frame_stays at.store at.locals frame frames code (frame_not_left frame frames is n code next walk) deep after r

  -- A call whose step is stuck.
  module _ (f : ℕ) (rest : List Instr) (values : List Value) (at : Setting H) (stuck : Configuration H E)
      (gone : NotStuck (invocation host m f rest values at stuck) → ⊥) where
    -- Of a function with its arguments.
    entered_goes : (function : Function) (ty : FuncType) (passed below : List Value) (behind : Sequence) (s' : Store H) (locals' : List Value) (becomes : Sequence) →
        Invoked host m function ty at.store at.locals passed below behind s' locals' becomes →
        NotStuck (invocation_of host m f function ty (call_of passed below) rest at stuck)
    entered_goes (Defined func) ty passed below behind s' locals' becomes acts = tt
    entered_goes (Imported import number) ty passed below behind s' locals' becomes (row, h, given, results_values, found, replies, made, _, _, _) =
        if_some-there NotStuck (host.row import.«module» import.name ty) row stuck _ found
        (subst (λ reply. NotStuck (after_reply host m reply ty below rest at stuck)) (sym replies)
        (if_some-there NotStuck (results ty.results given) results_values stuck _ made
        (after_call_goes at.frames rest (results_values ++ below) (record at { store = with_host h at.store }))))

    call_no_act : NoAct at.store at.locals values (Invoke f) (plain rest)
    call_no_act s' locals' becomes (passed, below, split, function, ty, there, known, typed, acts) =
        gone (if_some-there NotStuck (slice_get (functions m) f) function stuck _ there
        (if_some-there NotStuck (slice_get m.types (type_number function)) ty stuck _ known
        (if_some-there NotStuck (arguments ty.params values) (call_of passed below) stuck _ (arguments_given ty passed below values split typed)
        (entered_goes function ty passed below (plain rest) s' locals' becomes acts))))

    -- It isn't rewritten, inside its labels and frames.
    call_stays : (after : State H) →
        RewritesTo host m (under_frames at.store at.locals (under_labels (join (stack values) (Then (Invoke f) (plain rest))) at.labels) at.frames) after → ⊥
    call_stays after r =
        let (closed, none) = labels_closed at.store at.locals at.labels (join (stack values) (Then (Invoke f) (plain rest)))
        (closed_call values (Invoke f) (plain rest) tt)
        (blocked at.store at.locals values (Invoke f) (plain rest) tt call_no_act tt) in
        frames_closed at.store at.locals at.frames (under_labels (join (stack values) (Then (Invoke f) (plain rest))) at.labels) closed none after r

  -- Values alone, in a frame that doesn't return as many.
  values_stay : (s : Store H) (locals values : List Value) (frame : Frame) (frames : List Frame) → (nat_eq frame.arity (length values) ≡ true → ⊥) →
      (code : Sequence) → code ≡ stack values → (after : State H) → RewritesTo host m (under_frames s locals code (frame ∷ frames)) after → ⊥
  values_stay s locals values frame frames differ code is after r =
      frame_stays s locals frame frames code (λ s' locals' becomes acts. left acts)
      (λ s' locals' becomes r. stack_not_rewritten host m s s' locals locals' values code becomes (view host m s s' locals locals' code becomes r) is)
      after r where
        left : {s' : Store H} {locals' : List Value} {becomes : Sequence} →
            Acts host m s frame.locals frame.values (Framed frame.arity locals code) (plain frame.rest) s' locals' becomes → ⊥
        left (_, _, inl (given, long, same, _)) =
            let alike : given ≡ values = stack-same given values (sym same ∙ is) in
            differ (eq-eqb frame.arity (length values) (long ∙ ap length alike))
        left (_, _, inr (i, k, top, _, _, stands, _)) = in_labels_no_stack top values i k code stands is

  module _ (values : List Value) (at : Setting H) where
    -- The end of code, in these labels and frames.
    abbrev ending : List Label → List Frame → State H
    ending labels frames = under_frames at.store at.locals (under_labels (join (stack values) Empty) labels) frames

    -- Where nothing is stuck there is nothing to show.
    abbrev Final : List Label → List Frame → Configuration H E → Type 0
    Final labels frames (Stuck code left) = ((after : State H) → RewritesTo host m (ending labels frames) after → ⊥) × Unit {0}
    Final labels frames _ = Unit {0}

    after_return_final : (labels : List Label) (frames : List Frame) (frame : Frame) (callers : List Frame) →
        Final labels frames (after_return host m frame callers values at.store)
    after_return_final labels frames frame [] = tt
    after_return_final labels frames frame (caller ∷ callers) = tt

    end_of_function_final : (frames : List Frame) → Final [] frames (end_of_function host m values frames at.store (Stuck [] at))
    end_of_function_final [] = (
      λ after r. stack_not_rewritten host m at.store after.store at.locals after.locals values (join (stack values) Empty) after.code
          (view host m at.store after.store at.locals after.locals (join (stack values) Empty) after.code r) (join-empty (stack values)),
      tt,
    )
    end_of_function_final (frame ∷ frames) =
        cond-either (Final [] (frame ∷ frames)) (nat_eq frame.arity (length values)) (after_return host m frame frames values at.store) (Stuck [] at)
        (λ _. after_return_final [] (frame ∷ frames) frame frames)
        (λ differ. (
          values_stay at.store at.locals values frame frames (λ same. let none : true ≡ false = sym same ∙ differ in cc)
              (join (stack values) Empty) (join-empty (stack values)),
          tt,
        ))

    end_of_code_final : (labels : List Label) → Final labels at.frames (end_of_code host m values labels at)
    end_of_code_final [] = end_of_function_final at.frames
    end_of_code_final (label ∷ labels) = tt

    end_final : (c : Configuration H E) → Final at.labels at.frames c → IsStuckStep host m (Running [] values at) c
    end_final (Stuck code left) final = final
    end_final (Running code others left) final = tt
    end_final (Calling f rest others left) final = tt
    end_final (Trapped code left) final = tt
    end_final (Ended end h) final = tt

  -- What is said of a stuck step, where it is one.
  running_final : (i : Instr) (rest : List Instr) (values : List Value) (at : Setting H) (c : Configuration H E) →
      step host m (Running (i ∷ rest) values at) ≡ c → IsStuckStep host m (Running (i ∷ rest) values at) c
  running_final i rest values at (Running code others left) is = tt
  running_final i rest values at (Calling f behind others left) is = tt
  running_final i rest values at (Trapped code left) is = tt
  running_final i rest values at (Ended end h) is = tt
  running_final i rest values at (Stuck code left) is =
      let trap : Configuration H E = Trapped (i ∷ rest) at in
      let stuck : Configuration H E = Stuck (i ∷ rest) at in (
        instr_stays i rest values at trap stuck (λ goes. subst NotStuck is goes) at.frames refl,
        λ taken below split traps. subst NotStuck is
            (subst (λ values. NotStuck (instr_step host m i rest values at trap stuck)) (sym split)
            (trap_not_stuck host m rest at.locals at.labels at.frames trap stuck tt i at.store taken below traps)),
      )

  calling_final : (f : ℕ) (rest : List Instr) (values : List Value) (at : Setting H) (c : Configuration H E) →
      step host m (Calling f rest values at) ≡ c → IsStuckStep host m (Calling f rest values at) c
  calling_final f rest values at (Running code others left) is = tt
  calling_final f rest values at (Calling g behind others left) is = tt
  calling_final f rest values at (Trapped code left) is = tt
  calling_final f rest values at (Ended end h) is = tt
  calling_final f rest values at (Stuck code left) is = (call_stays f rest values at (Stuck (Call f ∷ rest) at) (λ goes. subst NotStuck is goes), tt)

  -- Each step.
  pub stuck_is_final : StuckIsFinal host m
  stuck_is_final (Running [] values at) = end_final values at (end_of_code host m values at.labels at) (end_of_code_final values at at.labels)
  stuck_is_final (Running (i ∷ rest) values at) = running_final i rest values at (step host m (Running (i ∷ rest) values at)) refl
  stuck_is_final (Calling f rest values at) = calling_final f rest values at (step host m (Calling f rest values at)) refl
  stuck_is_final (Trapped code at) = tt
  stuck_is_final (Stuck code at) = (tt, tt)
  stuck_is_final (Ended end h) = tt
