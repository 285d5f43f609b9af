-- At one front rules have one outcome, and what is inside a label or a frame that a rule leaves isn't rewritten.
use Rattle.std.proofs.Common.{◌≡◌, ◌≤◌, inl, inr, ℕ, zero, suc, List, ◌++◌, length, reverse, refl, sym, ap, subst, ◌∙◌, arith, None}
use Rattle.std.proofs.lemmas.List.{reverse-reverse, length-reverse, length-map}
use Rattle.hph_wasm.specs.declared.instr.Instr.{Instr, Br, Return}
use Rattle.hph_wasm.specs.declared.types.FuncType.{FuncType}
use Rattle.hph_wasm.specs.declared.value.Value.{Value}
use Rattle.hph_wasm.specs.declared.module.Module.{Module}
use Rattle.hph_wasm.specs.Values.{type_of}
use Rattle.hph_wasm.specs.Functions.{Function, Imported, Defined}
use Rattle.hph_wasm.specs.Configuration.{Host, Store}
use Rattle.hph_wasm.specs.Reduction.{with_host}
use Rattle.hph_wasm.specs.Sequences.{Administrative, Plain, Constant, Invoke, Labelled, Framed, Sequence, Empty, Then, join, plain, constants, stack, on_stack, InLabels}
use Rattle.hph_wasm.specs.Sequences as inside
use Rattle.hph_wasm.specs.Rewriting.{Rewrites, here, in_label, in_frame, State}
use Rattle.hph_wasm.proofs.SequenceLaws.{on_top}
use Rattle.hph_wasm.proofs.Fronts.{front-same, no_front, same-top}
use Rattle.hph_wasm.proofs.PlainResults.{result}
use Rattle.hph_wasm.proofs.RuleViews.{Leaves, by_branch, by_return, Invoked, Acts, Seen, rule_seen}

-- An instruction that leaves more labels than these.
pub data Beyond : Instr → ℕ → Type 0 where
  branches : (n k : ℕ) → k ≤ n → Beyond (Br n) k
  returns : (k : ℕ) → Beyond Return k

-- It leaves one fewer too.
fewer : (i : Instr) (k : ℕ) → Beyond i (suc k) → Beyond i k
fewer i k (branches n _ more) = branches n k (omega (arith, more))
fewer i k (returns _) = returns k

-- What leaves a frame leaves all the labels in it.
pub leaves_all : (i : Instr) (k : ℕ) → Leaves i k → Beyond i k
leaves_all i k (by_branch _) = branches k k (omega arith)
leaves_all i k (by_return _) = returns k

-- A branch to the outermost of so many labels doesn't leave more.
not_beyond : (i : Instr) (k : ℕ) → Beyond i (suc k) → i ≡ Br k → ⊥
not_beyond i k (branches n _ more) same = let number : n ≡ k = cc in omega (arith, more, number)
not_beyond i k (returns _) same = cc

-- What stands in labels has a front.
pub in_labels_no_stack : (top given : List Value) (i : Instr) (k : ℕ) (body : Sequence) → InLabels (on_stack top (Plain i)) k body → body ≡ stack given → ⊥
in_labels_no_stack top given i k _ (inside.here values rest) same =
    no_front given (top ++ values) (Plain i) rest tt (sym same ∙ on_top top values (Plain i) rest)
in_labels_no_stack top given i k _ (inside.in_one values arity continuation rest j body stands) same =
    no_front given values (Labelled arity continuation body) rest tt (sym same)

-- In one sequence it is the same instruction, in as many labels, on the same stack.
in_labels_same : (top others : List Value) (i i' : Instr) (k k' : ℕ) (body body' : Sequence) → InLabels (on_stack top (Plain i)) k body →
    InLabels (on_stack others (Plain i')) k' body' → body ≡ body' →
    (i ≡ i') × (k ≡ k') × (below : List Value) × (lower : List Value) × (top ++ below ≡ others ++ lower)
in_labels_same top others i i' _ _ _ _ (inside.here values rest) (inside.here values' rest') same =
    let (stacks, first, behind) = front-same (top ++ values) (others ++ values') (Plain i) (Plain i') rest rest' tt tt
    (sym (on_top top values (Plain i) rest) ∙ same ∙ on_top others values' (Plain i') rest') in
    let alike : i ≡ i' = cc in (alike, refl, values, values', stacks)
in_labels_same top others i i' _ _ _ _ (inside.here values rest) (inside.in_one values' arity continuation rest' j body stands) same =
    let (stacks, first, behind) = front-same (top ++ values) values' (Plain i) (Labelled arity continuation body) rest rest' tt tt
    (sym (on_top top values (Plain i) rest) ∙ same) in
    let none : ⊥ = cc in absurd none
in_labels_same top others i i' _ _ _ _ (inside.in_one values arity continuation rest j body stands) (inside.here values' rest') same =
    let (stacks, first, behind) = front-same values (others ++ values') (Labelled arity continuation body) (Plain i') rest rest' tt tt
    (same ∙ on_top others values' (Plain i') rest') in
    let none : ⊥ = cc in absurd none
in_labels_same top others i i' _ _ _ _ (inside.in_one values arity continuation rest j body stands) (inside.in_one values' arity' continuation' rest' j' body' stands') same =
    let (stacks, first, behind) = front-same values values' (Labelled arity continuation body) (Labelled arity' continuation' body') rest rest' tt tt same in
    let alike : body ≡ body' = cc in
    let (instruction, number, below, lower, tops) = in_labels_same top others i i' j j' body body' stands stands' alike in
    (instruction, ap suc number, below, lower, tops)

module _ {H E : Type 0} (host : Host H E) (m : Module) where
  -- The same outcome.
  abbrev pub Same : Store H → Store H → List Value → List Value → Sequence → Sequence → Type 0
  Same s s' locals locals' a b = (s ≡ s') × (locals ≡ locals') × (a ≡ b)

  -- One that leaves labels is no plain instruction.
  no_result : (i : Instr) (k : ℕ) (s : Store H) (locals values : List Value) → Beyond i k → result host m i s locals values ≡ None
  no_result i k s locals values (branches zero _ more) = refl
  no_result i k s locals values (branches (suc n) _ more) = refl
  no_result i k s locals values (returns _) = refl

  -- So a rule doesn't apply to it as one.
  not_plain : (i : Instr) (k : ℕ) (s s' : Store H) (locals locals' values : List Value) (rest becomes : Sequence) → Beyond i k →
      Acts host m s locals values (Plain i) rest s' locals' becomes → ⊥
  not_plain i k s s' locals locals' values rest becomes beyond (c, is, _, _, _) =
      let absent = no_result i k s locals values beyond in let none : ⊥ = cc in none

  -- What a rule does at a front is what it does at the same front.
  pub acts_at : (s s' : Store H) (locals locals' values others : List Value) (x y : Administrative) (rest behind becomes : Sequence) →
      values ≡ others → x ≡ y → rest ≡ behind → Acts host m s locals others y behind s' locals' becomes → Acts host m s locals values x rest s' locals' becomes
  acts_at s s' locals locals' values others x y rest behind becomes stacks first back acts =
      subst (λ values. Acts host m s locals values x rest s' locals' becomes) (sym stacks)
      (subst (λ x. Acts host m s locals others x rest s' locals' becomes) (sym first)
      (subst (λ rest. Acts host m s locals others y rest s' locals' becomes) (sym back) acts))

  -- A rewriting has a front, at which a rule acts, or inside which there is another.
  pub data View (s : Store H) (locals : List Value) (code : Sequence) (s' : Store H) (locals' : List Value) (becomes : Sequence) : Type 0 where
    at_front : Seen host m s locals code s' locals' becomes → View s locals code s' locals' becomes
    within_label : (values : List Value) (arity : ℕ) (continuation : _) (body after : Sequence) (rest : Sequence) →
        code ≡ join (stack values) (Then (Labelled arity continuation body) rest) → Rewrites host m s locals body s' locals' after →
        becomes ≡ join (stack values) (Then (Labelled arity continuation after) rest) → View s locals code s' locals' becomes
    within_frame : (values : List Value) (arity : ℕ) (inner inner' : List Value) (body after : Sequence) (rest : Sequence) →
        code ≡ join (stack values) (Then (Framed arity inner body) rest) → Rewrites host m s inner body s' inner' after → locals' ≡ locals →
        becomes ≡ join (stack values) (Then (Framed arity inner' after) rest) → View s locals code s' locals' becomes

  pub view : (s s' : Store H) (locals locals' : List Value) (code becomes : Sequence) → Rewrites host m s locals code s' locals' becomes →
      View s locals code s' locals' becomes
  view s s' locals locals' _ _ (here {a = a} {b = b} values rest r) = at_front (rule_seen host m s s' locals locals' a b values rest r)
  view s s' locals locals' _ _ (in_label {a = a} {b = b} values arity continuation rest r) = within_label values arity continuation a b rest refl r refl
  view s s' _ _ _ _ (in_frame {inner = inner} {inner' = inner'} {a = a} {b = b} locals values arity rest r) =
      within_frame values arity inner inner' a b rest refl r refl refl

  -- Values alone aren't rewritten.
  pub stack_not_rewritten : (s s' : Store H) (locals locals' given : List Value) (code becomes : Sequence) →
      View s locals code s' locals' becomes → code ≡ stack given → ⊥
  stack_not_rewritten s s' locals locals' given code becomes (at_front seen) same =
      no_front given seen.values seen.first seen.rest seen.front (sym same ∙ seen.split)
  stack_not_rewritten s s' locals locals' given code becomes (within_label values arity continuation body after rest split r is) same =
      no_front given values (Labelled arity continuation body) rest tt (sym same ∙ split)
  stack_not_rewritten s s' locals locals' given code becomes (within_frame values arity inner inner' body after rest split r kept is) same =
      no_front given values (Framed arity inner body) rest tt (sym same ∙ split)

  -- A label isn't left by what leaves more.
  label_not_left : (top : List Value) (i : Instr) (j : ℕ) (body : Sequence) → InLabels (on_stack top (Plain i)) j body → Beyond i (suc j) →
      (s s' : Store H) (locals locals' values : List Value) (arity : ℕ) (continuation : List Instr) (rest becomes : Sequence) →
      Acts host m s locals values (Labelled arity continuation body) rest s' locals' becomes → ⊥
  label_not_left top i j body stands beyond s s' locals locals' values arity continuation rest becomes (_, _, inl (given, same, _)) =
      in_labels_no_stack top given i j body stands same
  label_not_left top i j body stands beyond s s' locals locals' values arity continuation rest becomes (_, _, inr (k, others, long, there, _)) =
      let (instruction, number, below, lower, tops) = in_labels_same top others i (Br k) j k body body stands there refl in
      not_beyond i j beyond (instruction ∙ ap Br (sym number))

  -- So it isn't rewritten.
  not_viewed : (top : List Value) (i : Instr) (k : ℕ) (body code : Sequence) → InLabels (on_stack top (Plain i)) k body → Beyond i k →
      (s s' : Store H) (locals locals' : List Value) (becomes : Sequence) → View s locals code s' locals' becomes → body ≡ code → ⊥
  not_viewed top i _ _ code (inside.here values rest) beyond s s' locals locals' becomes (at_front seen) same =
      let (stacks, first, back) = front-same (top ++ values) seen.values (Plain i) seen.first rest seen.rest tt seen.front
      (sym (on_top top values (Plain i) rest) ∙ same ∙ seen.split) in
      not_plain i 0 s s' locals locals' (top ++ values) rest becomes beyond
      (acts_at s s' locals locals' (top ++ values) seen.values (Plain i) seen.first rest seen.rest becomes stacks first back seen.acts)
  not_viewed top i _ _ code (inside.here values rest) beyond s s' locals locals' becomes (within_label others arity continuation body after behind split r is) same =
      let (stacks, first, back) = front-same (top ++ values) others (Plain i) (Labelled arity continuation body) rest behind tt tt
      (sym (on_top top values (Plain i) rest) ∙ same ∙ split) in
      cc
  not_viewed top i _ _ code (inside.here values rest) beyond s s' locals locals' becomes (within_frame others arity inner inner' body after behind split r kept is) same =
      let (stacks, first, back) = front-same (top ++ values) others (Plain i) (Framed arity inner body) rest behind tt tt
      (sym (on_top top values (Plain i) rest) ∙ same ∙ split) in
      cc
  not_viewed top i _ _ code (inside.in_one values arity continuation rest j body stands) beyond s s' locals locals' becomes (at_front seen) same =
      let (stacks, first, back) = front-same values seen.values (Labelled arity continuation body) seen.first rest seen.rest tt seen.front
      (same ∙ seen.split) in
      label_not_left top i j body stands beyond s s' locals locals' values arity continuation rest becomes
      (acts_at s s' locals locals' values seen.values (Labelled arity continuation body) seen.first rest seen.rest becomes stacks first back seen.acts)
  not_viewed top i _ _ code (inside.in_one values arity continuation rest j body stands) beyond s s' locals locals' becomes (within_label others arity' continuation' body' after behind split r is) same =
      let (stacks, first, back) = front-same values others (Labelled arity continuation body) (Labelled arity' continuation' body') rest behind tt tt
      (same ∙ split) in
      let alike : body' ≡ body = cc in
      not_viewed top i j body body' stands (fewer i j beyond) s s' locals locals' after (view s s' locals locals' body' after r) (sym alike)
  not_viewed top i _ _ code (inside.in_one values arity continuation rest j body stands) beyond s s' locals locals' becomes (within_frame others arity' inner inner' body' after behind split r kept is) same =
      let (stacks, first, back) = front-same values others (Labelled arity continuation body) (Framed arity' inner body') rest behind tt tt
      (same ∙ split) in
      cc

  pub not_rewritten : (top : List Value) (i : Instr) (k : ℕ) (body : Sequence) → InLabels (on_stack top (Plain i)) k body → Beyond i k →
      (s s' : Store H) (locals locals' : List Value) (becomes : Sequence) → Rewrites host m s locals body s' locals' becomes → ⊥
  not_rewritten top i k body stands beyond s s' locals locals' becomes r =
      not_viewed top i k body body stands beyond s s' locals locals' becomes (view s s' locals locals' body becomes r) refl

  -- A call of one function on the same arguments has one outcome.
  invoked_same : (function : Function) (ty : FuncType) (s s1 s2 : Store H) (locals l1 l2 passed below : List Value) (rest b1 b2 : Sequence) →
      Invoked host m function ty s locals passed below rest s1 l1 b1 → Invoked host m function ty s locals passed below rest s2 l2 b2 →
      Same s1 s2 l1 l2 b1 b2
  invoked_same (Defined func) ty s s1 s2 locals l1 l2 passed below rest b1 b2 (st, lo, is) (st', lo', is') =
      (st ∙ sym st', lo ∙ sym lo', is ∙ sym is')
  invoked_same (Imported import number) ty s s1 s2 locals l1 l2 passed below rest b1 b2 (row, h, given, values, found, replies, made, st, lo, is) (row', h', given', values', found', replies', made', st', lo', is') =
      let rows : row ≡ row' = cc in
      let hosts : h ≡ h' = cc in
      let answers : given ≡ given' = cc in
      let outcomes : values ≡ values' = cc in (
        st ∙ ap (λ h. with_host h s) hosts ∙ sym st',
        lo ∙ sym lo',
        is ∙ ap (λ values. join (stack below) (join (constants values) rest)) outcomes ∙ sym is',
      )

  -- What leaves labels of one body leaves them with the same values.
  tops_same : (n k k' : ℕ) (top others : List Value) (i i' : Instr) (body : Sequence) → n ≡ length top → n ≡ length others →
      InLabels (on_stack top (Plain i)) k body → InLabels (on_stack others (Plain i')) k' body → top ≡ others
  tops_same n k k' top others i i' body long long' stands stands' =
      let (instruction, number, below, lower, tops) = in_labels_same top others i i' k k' body body stands stands' refl in
      (same-top top others below lower (sym long ∙ long') tops).0

  -- At one front rules have one outcome.
  pub acts_same : (x : Administrative) (s s1 s2 : Store H) (locals l1 l2 values : List Value) (rest b1 b2 : Sequence) →
      Acts host m s locals values x rest s1 l1 b1 → Acts host m s locals values x rest s2 l2 b2 → Same s1 s2 l1 l2 b1 b2
  acts_same (Plain i) s s1 s2 locals l1 l2 values rest b1 b2 (c, made, st, lo, is) (c', made', st', lo', is') =
      let one : c ≡ c' = cc in
      (st ∙ ap (λ (c : State H). c.store) one ∙ sym st', lo ∙ ap (λ (c : State H). c.locals) one ∙ sym lo', is ∙ ap (λ (c : State H). join c.code rest) one ∙ sym is')
  acts_same (Constant v) s s1 s2 locals l1 l2 values rest b1 b2 a b = absurd a
  acts_same (Invoke f) s s1 s2 locals l1 l2 values rest b1 b2
      (passed, below, split, function, ty, there, known, typed, acts) (passed', below', split', function', ty', there', known', typed', acts') =
      let functions_same : function ≡ function' = cc in
      let types_same : ty ≡ ty' = cc in
      let lengths : length (reverse passed) ≡ length (reverse passed') =
      length-reverse passed ∙ sym (length-map passed type_of) ∙ ap length (typed ∙ ap (λ (ty : FuncType). ty.params) types_same ∙ sym typed') ∙
      length-map passed' type_of ∙ sym (length-reverse passed') in
      let (tops, lower) = same-top (reverse passed) (reverse passed') below below' lengths (sym split ∙ split') in
      let arguments_same : passed ≡ passed' = sym (reverse-reverse passed) ∙ ap reverse tops ∙ reverse-reverse passed' in
      invoked_same function ty s s1 s2 locals l1 l2 passed below rest b1 b2 acts
      (subst (λ function. Invoked host m function ty s locals passed below rest s2 l2 b2) (sym functions_same)
      (subst (λ ty. Invoked host m function' ty s locals passed below rest s2 l2 b2) (sym types_same)
      (subst (λ passed. Invoked host m function' ty' s locals passed below rest s2 l2 b2) (sym arguments_same)
      (subst (λ below. Invoked host m function' ty' s locals passed' below rest s2 l2 b2) (sym lower) acts'))))
  acts_same (Labelled n continuation body) s s1 s2 locals l1 l2 values rest b1 b2 (st, lo, inl (given, same, is)) (st', lo', inl (given', same', is')) =
      (st ∙ sym st', lo ∙ sym lo', is ∙ ap (λ b. join (stack values) (join b rest)) (sym same ∙ same') ∙ sym is')
  acts_same (Labelled n continuation body) s s1 s2 locals l1 l2 values rest b1 b2 (st, lo, inl (given, same, is)) (st', lo', inr (k, top, long, stands, is')) =
      absurd (in_labels_no_stack top given (Br k) k body stands same)
  acts_same (Labelled n continuation body) s s1 s2 locals l1 l2 values rest b1 b2 (st, lo, inr (k, top, long, stands, is)) (st', lo', inl (given, same, is')) =
      absurd (in_labels_no_stack top given (Br k) k body stands same)
  acts_same (Labelled n continuation body) s s1 s2 locals l1 l2 values rest b1 b2 (st, lo, inr (k, top, long, stands, is)) (st', lo', inr (k', top', long', stands', is')) = (
    st ∙ sym st',
    lo ∙ sym lo',
    is ∙ ap (λ top. join (stack values) (join (join (stack top) (plain continuation)) rest))
        (tops_same n k k' top top' (Br k) (Br k') body long long' stands stands') ∙ sym is',
  )
  acts_same (Framed n inner body) s s1 s2 locals l1 l2 values rest b1 b2 (st, lo, inl (given, _, same, is)) (st', lo', inl (given', _, same', is')) =
      (st ∙ sym st', lo ∙ sym lo', is ∙ ap (λ b. join (stack values) (join b rest)) (sym same ∙ same') ∙ sym is')
  acts_same (Framed n inner body) s s1 s2 locals l1 l2 values rest b1 b2 (st, lo, inl (given, _, same, is)) (st', lo', inr (i, k, top, leaves, long, stands, is')) =
      absurd (in_labels_no_stack top given i k body stands same)
  acts_same (Framed n inner body) s s1 s2 locals l1 l2 values rest b1 b2 (st, lo, inr (i, k, top, leaves, long, stands, is)) (st', lo', inl (given, _, same, is')) =
      absurd (in_labels_no_stack top given i k body stands same)
  acts_same (Framed n inner body) s s1 s2 locals l1 l2 values rest b1 b2 (st, lo, inr (i, k, top, leaves, long, stands, is)) (st', lo', inr (i', k', top', leaves', long', stands', is')) = (
    st ∙ sym st',
    lo ∙ sym lo',
    is ∙ ap (λ top. join (stack values) (join (stack top) rest))
        (tops_same n k k' top top' i i' body long long' stands stands') ∙ sym is',
  )
