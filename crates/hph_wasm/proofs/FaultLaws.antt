-- Fewer opcodes than can be typed can be typed, so there is one first fault at most, and none where all is valid.
use Rattle.std.proofs.Common.{◌≡◌, ◌≤◌, ◌<◌, inl, inr, ℕ, zero, suc, ◌+◌, ◌-◌, List, [], ◌∷◌, Some, length, take, refl, sym, ap, subst, arith}
use Rattle.std.proofs.lemmas.Bool.{cases_lt}
use Rattle.std.specs.Prelude.{slice_get}
use Rattle.std.specs.List.{AllByRecursion}
use Rattle.hph_wasm.specs.declared.instr.Instr.{Instr, Unreachable, Nop, Block', Loop', If', Br, BrIf, BrTable, Return, Call, CallIndirect, Drop, Select, LocalGet, LocalSet, LocalTee, GlobalGet, GlobalSet, Load, LoadNarrow, StoreNarrow, I32Const, I64Const, Eqz, Compare, Unary, Binary, Wrap, Extend, Row_of-Instr, end_of-Instr, more_of-Instr, Held-Instr-If-2, None', Some'}
use Rattle.hph_wasm.specs.declared.instr.Instr as instr
use Rattle.hph_wasm.specs.declared.types.ValType.{ValType}
use Rattle.hph_wasm.specs.declared.types.FuncType.{FuncType}
use Rattle.hph_wasm.specs.declared.module.Func.{Func}
use Rattle.hph_wasm.specs.declared.module.Module.{Module}
use Rattle.hph_wasm.specs.Functions.{imported_functions}
use Rattle.hph_wasm.specs.Rows.{size, row_size, else_size, list_size}
use Rattle.hph_wasm.specs.Validity.{Context, under_label, results_of, IsInstr, IsRow, IsElse, IsSequence, IsBody, IsFunc, body_context}
use Rattle.hph_wasm.specs.ModuleValidity.{IsValidOutside, IsValid}
use Rattle.hph_wasm.specs.Faults.{RowBegins, InstrBegins, ElseBegins, SequenceBegins, BodyBegins, IsFirstFault, IsFirstInvalid, outside_code, outside, in_body, HasOneFault, HasOneFirst}
use Rattle.hph_wasm.proofs.Numbered.{all-at, below-there}

-- A number above another is that and more.
above : (n k : ℕ) → n ≤ k → k ≡ n + (k - n)
above n k within = omega arith

module _ (m : Module) where
  mutual
    -- Of valid instructions the first so many can be typed.
    row_upto : {j : _} (c : Context) (row : Row_of-Instr j) (from to : List ValType) (k : ℕ) → IsRow m c row from to → k ≤ row_size row →
        RowBegins m c row k from
    row_upto c end_of-Instr from to k valid within = omega (arith, within)
    row_upto c (more_of-Instr i rest) from to zero valid within = inl refl
    row_upto c (more_of-Instr i rest) from to (suc k) (mid, first, others) within = elim (cases_lt (suc k) (size i)) [
      | inl less ↦ inr (inl (instr_upto c i from mid (suc k) first (omega arith) less))
      | inr more ↦ inr (inr (
        suc k - size i,
        above (size i) (suc k) more,
        mid,
        first,
        row_upto c rest mid to (suc k - size i) others (omega (arith, within, more)),
      ))
    ]

    -- The same of an instruction.
    instr_upto : (c : Context) (i : Instr) (from to : List ValType) (k : ℕ) → IsInstr m c i from to → 0 < k → k < size i →
        InstrBegins m c i k from
    instr_upto c (Block' ty shape body) from to k (inside, takes) some within =
        (k - 1, omega (arith, some), row_upto (under_label (results_of ty) c) body [] (results_of ty) (k - 1) inside (omega (arith, within)))
    instr_upto c (Loop' ty shape body) from to k (inside, takes) some within =
        (k - 1, omega (arith, some), row_upto (under_label [] c) body [] (results_of ty) (k - 1) inside (omega (arith, within)))
    instr_upto c (If' ty shape body other) from to k (inside, other_inside, (below, taken, given)) some within = (
      (below, taken),
      elim (cases_lt (row_size body + 1) k) [
        | inl past ↦ inr (
          inside,
          else_upto (under_label (results_of ty) c) other (results_of ty) (2 + row_size body) k other_inside
              (omega (arith, past)) (omega (arith, within)),
        )
        | inr not_past ↦ inl (
          k - 1,
          omega (arith, some),
          row_upto (under_label (results_of ty) c) body [] (results_of ty) (k - 1) inside
              (omega (arith, not_past)),
        )
      ],
    )
    instr_upto c Unreachable from to k valid some within = absurd (omega (arith, some, within))
    instr_upto c Nop from to k valid some within = absurd (omega (arith, some, within))
    instr_upto c (Br x) from to k valid some within = absurd (omega (arith, some, within))
    instr_upto c (BrIf x) from to k valid some within = absurd (omega (arith, some, within))
    instr_upto c (BrTable ks x) from to k valid some within = absurd (omega (arith, some, within))
    instr_upto c Return from to k valid some within = absurd (omega (arith, some, within))
    instr_upto c (Call f) from to k valid some within = absurd (omega (arith, some, within))
    instr_upto c (CallIndirect number) from to k valid some within = absurd (omega (arith, some, within))
    instr_upto c Drop from to k valid some within = absurd (omega (arith, some, within))
    instr_upto c Select from to k valid some within = absurd (omega (arith, some, within))
    instr_upto c (LocalGet x) from to k valid some within = absurd (omega (arith, some, within))
    instr_upto c (LocalSet x) from to k valid some within = absurd (omega (arith, some, within))
    instr_upto c (LocalTee x) from to k valid some within = absurd (omega (arith, some, within))
    instr_upto c (GlobalGet x) from to k valid some within = absurd (omega (arith, some, within))
    instr_upto c (GlobalSet x) from to k valid some within = absurd (omega (arith, some, within))
    instr_upto c (Load ty arg) from to k valid some within = absurd (omega (arith, some, within))
    instr_upto c (LoadNarrow load arg) from to k valid some within = absurd (omega (arith, some, within))
    instr_upto c (instr.Store ty arg) from to k valid some within = absurd (omega (arith, some, within))
    instr_upto c (StoreNarrow store arg) from to k valid some within = absurd (omega (arith, some, within))
    instr_upto c (I32Const z) from to k valid some within = absurd (omega (arith, some, within))
    instr_upto c (I64Const z) from to k valid some within = absurd (omega (arith, some, within))
    instr_upto c (Eqz ty) from to k valid some within = absurd (omega (arith, some, within))
    instr_upto c (Compare ty o) from to k valid some within = absurd (omega (arith, some, within))
    instr_upto c (Unary ty o) from to k valid some within = absurd (omega (arith, some, within))
    instr_upto c (Binary ty o) from to k valid some within = absurd (omega (arith, some, within))
    instr_upto c Wrap from to k valid some within = absurd (omega (arith, some, within))
    instr_upto c (Extend sign) from to k valid some within = absurd (omega (arith, some, within))

    -- The same of a second branch.
    else_upto : (c : Context) (other : Held-Instr-If-2) (to : List ValType) (before k : ℕ) → IsElse m c other to → before ≤ k →
        k < before + else_size other → ElseBegins m c other before k
    else_upto c None' to before k valid from within = absurd (omega (arith, from, within))
    else_upto c (Some' shape body) to before k valid from within =
        (k - before, above before k from, row_upto c body [] to (k - before) valid (omega (arith, from, within)))

  -- The same of a sequence.
  sequence_upto : (c : Context) (code : List Instr) (from to : List ValType) (k : ℕ) → IsSequence m c code from to → k ≤ list_size code →
      SequenceBegins m c code k from
  sequence_upto c [] from to k valid within = omega (arith, within)
  sequence_upto c (i ∷ rest) from to zero valid within = inl refl
  sequence_upto c (i ∷ rest) from to (suc k) (mid, first, others) within = elim (cases_lt (suc k) (size i)) [
    | inl less ↦ inr (inl (instr_upto c i from mid (suc k) first (omega arith) less))
    | inr more ↦ inr (inr (
      suc k - size i,
      above (size i) (suc k) more,
      mid,
      first,
      sequence_upto c rest mid to (suc k - size i) others (omega (arith, within, more)),
    ))
  ]

  mutual
    -- No more opcodes can be typed than there are.
    row_within : {j : _} (c : Context) (row : Row_of-Instr j) (from : List ValType) (n : ℕ) → RowBegins m c row n from → n ≤ row_size row
    row_within c end_of-Instr from n none = omega (arith, none)
    row_within c (more_of-Instr i rest) from n (inl none) = omega (arith, none)
    row_within c (more_of-Instr i rest) from n (inr (inl begins)) = let less = instr_within c i from n begins in omega (arith, less)
    row_within c (more_of-Instr i rest) from n (inr (inr (k, is, mid, valid, begins))) =
        let less = row_within c rest mid k begins in omega (arith, is, less)

    -- The same of an instruction, of whose opcodes one is left.
    instr_within : (c : Context) (i : Instr) (from : List ValType) (n : ℕ) → InstrBegins m c i n from → n < size i
    instr_within c (Block' ty shape body) from n (k, is, begins) =
        let less = row_within (under_label (results_of ty) c) body [] k begins in omega (arith, is, less)
    instr_within c (Loop' ty shape body) from n (k, is, begins) =
        let less = row_within (under_label [] c) body [] k begins in omega (arith, is, less)
    instr_within c (If' ty shape body other) from n (ends, inl (k, is, begins)) =
        let less = row_within (under_label (results_of ty) c) body [] k begins in omega (arith, is, less)
    instr_within c (If' ty shape body other) from n (ends, inr (valid, begins)) =
        let less = else_within (under_label (results_of ty) c) other (2 + row_size body) n begins in omega (arith, less)
    instr_within c Unreachable from n begins = absurd begins
    instr_within c Nop from n begins = absurd begins
    instr_within c (Br x) from n begins = absurd begins
    instr_within c (BrIf x) from n begins = absurd begins
    instr_within c (BrTable ks x) from n begins = absurd begins
    instr_within c Return from n begins = absurd begins
    instr_within c (Call f) from n begins = absurd begins
    instr_within c (CallIndirect number) from n begins = absurd begins
    instr_within c Drop from n begins = absurd begins
    instr_within c Select from n begins = absurd begins
    instr_within c (LocalGet x) from n begins = absurd begins
    instr_within c (LocalSet x) from n begins = absurd begins
    instr_within c (LocalTee x) from n begins = absurd begins
    instr_within c (GlobalGet x) from n begins = absurd begins
    instr_within c (GlobalSet x) from n begins = absurd begins
    instr_within c (Load ty arg) from n begins = absurd begins
    instr_within c (LoadNarrow load arg) from n begins = absurd begins
    instr_within c (instr.Store ty arg) from n begins = absurd begins
    instr_within c (StoreNarrow store arg) from n begins = absurd begins
    instr_within c (I32Const z) from n begins = absurd begins
    instr_within c (I64Const z) from n begins = absurd begins
    instr_within c (Eqz ty) from n begins = absurd begins
    instr_within c (Compare ty o) from n begins = absurd begins
    instr_within c (Unary ty o) from n begins = absurd begins
    instr_within c (Binary ty o) from n begins = absurd begins
    instr_within c Wrap from n begins = absurd begins
    instr_within c (Extend sign) from n begins = absurd begins

    -- The same of a second branch.
    else_within : (c : Context) (other : Held-Instr-If-2) (before n : ℕ) → ElseBegins m c other before n → n < before + else_size other
    else_within c None' before n begins = absurd begins
    else_within c (Some' shape body) before n (k, is, begins) = let less = row_within c body [] k begins in omega (arith, is, less)

  -- The same of a sequence.
  sequence_within : (c : Context) (code : List Instr) (from : List ValType) (n : ℕ) → SequenceBegins m c code n from → n ≤ list_size code
  sequence_within c [] from n none = omega (arith, none)
  sequence_within c (i ∷ rest) from n (inl none) = omega (arith, none)
  sequence_within c (i ∷ rest) from n (inr (inl begins)) = let less = instr_within c i from n begins in omega (arith, less)
  sequence_within c (i ∷ rest) from n (inr (inr (k, is, mid, valid, begins))) =
      let less = sequence_within c rest mid k begins in omega (arith, is, less)

  mutual
    -- Fewer opcodes can be typed of the instructions inside a block.
    row_less : {j : _} (c : Context) (row : Row_of-Instr j) (from : List ValType) (n k : ℕ) → RowBegins m c row n from → k ≤ n →
        RowBegins m c row k from
    row_less c end_of-Instr from n k none within = omega (arith, none, within)
    row_less c (more_of-Instr i rest) from n zero begins within = inl refl
    row_less c (more_of-Instr i rest) from n (suc k) (inl none) within = absurd (omega (arith, none, within))
    row_less c (more_of-Instr i rest) from n (suc k) (inr (inl begins)) within =
        inr (inl (instr_less c i from n (suc k) begins (omega arith) within))
    row_less c (more_of-Instr i rest) from n (suc k) (inr (inr (j, counted, mid, first, others))) within = elim (cases_lt (suc k) (size i)) [
      | inl less ↦ inr (inl (instr_upto c i from mid (suc k) first (omega arith) less))
      | inr more ↦ inr (inr (
        suc k - size i,
        above (size i) (suc k) more,
        mid,
        first,
        row_less c rest mid j (suc k - size i) others (omega (arith, within, counted, more)),
      ))
    ]

    -- The same of an instruction.
    instr_less : (c : Context) (i : Instr) (from : List ValType) (n k : ℕ) → InstrBegins m c i n from → 0 < k → k ≤ n →
        InstrBegins m c i k from
    instr_less c (Block' ty shape body) from n k (j, counted, begins) some within =
        (k - 1, omega (arith, some), row_less (under_label (results_of ty) c) body [] j (k - 1) begins (omega (arith, counted, within)))
    instr_less c (Loop' ty shape body) from n k (j, counted, begins) some within =
        (k - 1, omega (arith, some), row_less (under_label [] c) body [] j (k - 1) begins (omega (arith, counted, within)))
    instr_less c (If' ty shape body other) from n k (ends, inl (j, counted, begins)) some within =
        (ends, inl (k - 1, omega (arith, some), row_less (under_label (results_of ty) c) body [] j (k - 1) begins (omega (arith, counted, within))))
    instr_less c (If' ty shape body other) from n k (ends, inr (inside, begins)) some within = (
      ends,
      elim (cases_lt (row_size body + 1) k) [
        | inl past ↦ inr (inside, else_less (under_label (results_of ty) c) other (2 + row_size body) n k begins (omega (arith, past)) within)
        | inr not_past ↦ inl (
          k - 1,
          omega (arith, some),
          row_upto (under_label (results_of ty) c) body [] (results_of ty) (k - 1) inside
              (omega (arith, not_past)),
        )
      ],
    )
    instr_less c Unreachable from n k begins some within = absurd begins
    instr_less c Nop from n k begins some within = absurd begins
    instr_less c (Br x) from n k begins some within = absurd begins
    instr_less c (BrIf x) from n k begins some within = absurd begins
    instr_less c (BrTable ks x) from n k begins some within = absurd begins
    instr_less c Return from n k begins some within = absurd begins
    instr_less c (Call f) from n k begins some within = absurd begins
    instr_less c (CallIndirect number) from n k begins some within = absurd begins
    instr_less c Drop from n k begins some within = absurd begins
    instr_less c Select from n k begins some within = absurd begins
    instr_less c (LocalGet x) from n k begins some within = absurd begins
    instr_less c (LocalSet x) from n k begins some within = absurd begins
    instr_less c (LocalTee x) from n k begins some within = absurd begins
    instr_less c (GlobalGet x) from n k begins some within = absurd begins
    instr_less c (GlobalSet x) from n k begins some within = absurd begins
    instr_less c (Load ty arg) from n k begins some within = absurd begins
    instr_less c (LoadNarrow load arg) from n k begins some within = absurd begins
    instr_less c (instr.Store ty arg) from n k begins some within = absurd begins
    instr_less c (StoreNarrow store arg) from n k begins some within = absurd begins
    instr_less c (I32Const z) from n k begins some within = absurd begins
    instr_less c (I64Const z) from n k begins some within = absurd begins
    instr_less c (Eqz ty) from n k begins some within = absurd begins
    instr_less c (Compare ty o) from n k begins some within = absurd begins
    instr_less c (Unary ty o) from n k begins some within = absurd begins
    instr_less c (Binary ty o) from n k begins some within = absurd begins
    instr_less c Wrap from n k begins some within = absurd begins
    instr_less c (Extend sign) from n k begins some within = absurd begins

    -- The same of a second branch.
    else_less : (c : Context) (other : Held-Instr-If-2) (before n k : ℕ) → ElseBegins m c other before n → before ≤ k → k ≤ n →
        ElseBegins m c other before k
    else_less c None' before n k begins from within = absurd begins
    else_less c (Some' shape body) before n k (j, counted, begins) from within =
        (k - before, above before k from, row_less c body [] j (k - before) begins (omega (arith, counted, from, within)))

  -- The same of a sequence.
  sequence_less : (c : Context) (code : List Instr) (from : List ValType) (n k : ℕ) → SequenceBegins m c code n from → k ≤ n →
      SequenceBegins m c code k from
  sequence_less c [] from n k none within = omega (arith, none, within)
  sequence_less c (i ∷ rest) from n zero begins within = inl refl
  sequence_less c (i ∷ rest) from n (suc k) (inl none) within = absurd (omega (arith, none, within))
  sequence_less c (i ∷ rest) from n (suc k) (inr (inl begins)) within =
      inr (inl (instr_less c i from n (suc k) begins (omega arith) within))
  sequence_less c (i ∷ rest) from n (suc k) (inr (inr (j, counted, mid, first, others))) within = elim (cases_lt (suc k) (size i)) [
    | inl less ↦ inr (inl (instr_upto c i from mid (suc k) first (omega arith) less))
    | inr more ↦ inr (inr (
      suc k - size i,
      above (size i) (suc k) more,
      mid,
      first,
      sequence_less c rest mid j (suc k - size i) others (omega (arith, within, counted, more)),
    ))
  ]

  module _ (ty : FuncType) (func : Func) where
    -- All opcodes of a valid body can be typed.
    body_upto : (k : ℕ) → IsBody m ty func → k ≤ suc (list_size func.body) → BodyBegins m ty func k
    body_upto k valid within = elim (cases_lt (list_size func.body) k) [
      | inl past ↦ inr (omega (arith, within, past), valid)
      | inr not_past ↦ inl (sequence_upto (body_context ty func) func.body [] _ k valid not_past)
    ]

    -- Fewer opcodes of a body can be typed.
    body_less : (n k : ℕ) → BodyBegins m ty func n → k ≤ n → BodyBegins m ty func k
    body_less n k (inl begins) within = inl (sequence_less (body_context ty func) func.body [] n k begins within)
    body_less n k (inr (all, valid)) within = body_upto k valid (omega (arith, all, within))

    -- No fault is before another.
    not_before : (j k : ℕ) → IsFirstFault m ty func j → IsFirstFault m ty func k → j < k → ⊥
    not_before j k (_, _, fault) (_, begins, _) less = fault (body_less k (suc j) begins (omega (arith, less)))

    -- So there is one at most.
    one_fault : (j k : ℕ) → IsFirstFault m ty func j → IsFirstFault m ty func k → j ≡ k
    one_fault j k a b = elim (cases_lt j k) [
      | inl less ↦ absurd (not_before j k a b less)
      | inr more ↦ elim (cases_lt k j) [
        | inl less ↦ absurd (not_before k j b a less)
        | inr other ↦ omega (arith, more, other)
      ]
    ]

    -- And none where the body is valid.
    no_fault : (k : ℕ) → IsBody m ty func → IsFirstFault m ty func k → ⊥
    no_fault k valid (within, _, fault) = fault (body_upto (suc k) valid (omega (arith, within)))

    -- No opcodes can always be typed.
    none_begin : (c : Context) (code : List Instr) (from : List ValType) → SequenceBegins m c code 0 from
    none_begin c [] from = refl
    none_begin c (i ∷ rest) from = inl refl

    -- Where there is no first fault, more and more opcodes can be typed.
    all_begin : ((k : ℕ) → IsFirstFault m ty func k → ⊥) → (n : ℕ) → n ≤ suc (list_size func.body) → (BodyBegins m ty func n → ⊥) → ⊥
    all_begin none zero within not = not (inl (none_begin (body_context ty func) func.body []))
    all_begin none (suc k) within not = all_begin none k (omega (arith, within)) (λ begins. none k (omega (arith, within), begins, not))

    -- So a body that isn't valid has one.
    some_fault : (IsBody m ty func → ⊥) → ((k : ℕ) → IsFirstFault m ty func k → ⊥) → ⊥
    some_fault invalid none = all_begin none (suc (list_size func.body)) (omega arith) (λ begins. elim begins [
      | inl more ↦ (let within = sequence_within (body_context ty func) func.body [] (suc (list_size func.body)) more in omega (arith, within))
      | inr (all, valid) ↦ invalid valid
    ])

    pub has_one_fault : HasOneFault m ty func
    has_one_fault = (one_fault, no_fault, some_fault)

-- What holds of each at the front holds of one there.
front-at : {X : Type 0} (P : X → Type 0) (xs : List X) (n i : ℕ) (x : X) → AllByRecursion P (take n xs) → slice_get xs i ≡ Some x → i < n → P x
front-at P [] n i x all there less = let none : ⊥ = cc in absurd none
front-at P (y ∷ xs) zero i x all there less = absurd (omega (arith, less))
front-at P (y ∷ xs) (suc n) zero x all there less = let same : y ≡ x = cc in subst P same all.0
front-at P (y ∷ xs) (suc n) (suc i) x all there less = front-at P xs n i x all.1 there (omega (arith, less))

-- What can't fail at any element that it holds before can't fail of all.
none-fail : {X : Type 0} (P : X → Type 0) (xs : List X) →
    ((n : ℕ) (x : X) → slice_get xs n ≡ Some x → AllByRecursion P (take n xs) → (P x → ⊥) → ⊥) → (AllByRecursion P xs → ⊥) → ⊥
none-fail P [] each not = not tt
none-fail P (x ∷ xs) each not = each 0 x refl tt (λ first.
    none-fail P xs (λ n y there before. each (suc n) y there (first, before)) (λ others. not (first, others)))

module _ (m : Module) where
  -- A function that is valid has no fault.
  no_fault_in : (func : Func) (ty : FuncType) (k : ℕ) → slice_get m.types func.ty ≡ Some ty → IsFirstFault m ty func k → IsFunc m func → ⊥
  no_fault_in func ty k known fault (valid_ty, valid_known, body) =
      let same : valid_ty ≡ ty = cc in
      (has_one_fault m ty func).1 k (subst (λ ty. IsBody m ty func) same body) fault

  -- Of two functions with first faults neither is before the other.
  same_body : (n i j k : ℕ) (func other : Func) (ty other_ty : FuncType) → slice_get m.funcs n ≡ Some func → slice_get m.types func.ty ≡ Some ty →
      IsFirstFault m ty func j → slice_get m.funcs i ≡ Some other → slice_get m.types other.ty ≡ Some other_ty → IsFirstFault m other_ty other k →
      AllByRecursion (IsFunc m) (take i m.funcs) → n < i → ⊥
  same_body n i j k func other ty other_ty there known fault other_there other_known other_fault before less =
      no_fault_in func ty j known fault (front-at (IsFunc m) m.funcs i n func before there less)

  -- There is one first fault at most.
  one_first : (f g j k : ℕ) → IsFirstInvalid m f j → IsFirstInvalid m g k → (f ≡ g) × (j ≡ k)
  one_first f g j k (outside invalid) (outside also) = (refl, refl)
  one_first f g j k (outside invalid) (in_body n i func ty valid there known before fault) = absurd (invalid valid)
  one_first f g j k (in_body n i func ty valid there known before fault) (outside invalid) = absurd (invalid valid)
  one_first f g j k (in_body n a func ty valid there known before fault) (in_body i b other other_ty also other_there other_known other_before other_fault) =
      elim (cases_lt n i) [
        | inl less ↦ absurd (same_body n i a b func other ty other_ty there known fault other_there other_known other_fault other_before less)
        | inr more ↦ elim (cases_lt i n) [
          | inl less ↦ absurd (same_body i n b a other func other_ty ty other_there other_known other_fault there known fault before less)
          | inr not_more ↦
              let same : n ≡ i = omega (arith, more, not_more) in
              let same_func : func ≡ other = cc in
              let same_ty : ty ≡ other_ty = cc in
              let here : IsFirstFault m ty func b = subst (λ ty. IsFirstFault m ty func b) (sym same_ty)
              (subst (λ func. IsFirstFault m other_ty func b) (sym same_func) other_fault) in
              (ap (λ n. length (imported_functions m.imports) + n) same, (has_one_fault m ty func).0 a b fault here)
        ]
      ]

  -- A valid module has none.
  none_first : (f k : ℕ) → IsValid m → IsFirstInvalid m f k → ⊥
  none_first f k valid (outside invalid) = invalid valid.outside
  none_first f k valid (in_body n i func ty outside_valid there known before fault) =
      no_fault_in func ty i known fault (all-at (IsFunc m) m.funcs n func valid.funcs there)

  -- Where there is none, what stands outside code is valid, and so is each function.
  valid_function : IsValidOutside m → ((f k : ℕ) → IsFirstInvalid m f k → ⊥) → (n : ℕ) (func : Func) → slice_get m.funcs n ≡ Some func →
      AllByRecursion (IsFunc m) (take n m.funcs) → (IsFunc m func → ⊥) → ⊥
  valid_function valid none n func there before not =
      let (ty, known) = below-there m.types func.ty (all-at (λ func. func.ty < length m.types) m.funcs n func valid.func_types there) in
      (has_one_fault m ty func).2 (λ body. not (ty, known, body))
      (λ k fault. none (length (imported_functions m.imports) + n) k (in_body n k func ty valid there known before fault))

  -- So a module that isn't valid has one.
  some_first : (IsValid m → ⊥) → ((f k : ℕ) → IsFirstInvalid m f k → ⊥) → ⊥
  some_first invalid none = none outside_code 0 (outside (λ valid.
      none-fail (IsFunc m) m.funcs (valid_function valid none) (λ funcs. invalid (record { outside = valid; funcs = funcs }))))

  pub has_one_first : HasOneFirst m
  has_one_first = (one_first, none_first, some_first)
