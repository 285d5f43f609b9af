-- A body's check tells validity and the first fault.
use Rattle.std.proofs.Common.{◌≡◌, inl, inr, ℕ, suc, List, [], ◌++◌, reverse, sym, ap, subst, arith, zero-add, Bool, true, false, Option}
use Rattle.std.specs.Prelude.{MatchOption}
use Rattle.hph_wasm.specs.declared.instr.Instr.{Instr, Row_of-Instr, end_of-Instr, more_of-Instr, items-the_row-Instr, items_hidden-the_row-Instr-0}
use Rattle.hph_wasm.specs.declared.instr.Instr.TheBlock.{hidden-the_row-Instr-0}
use Rattle.hph_wasm.specs.declared.types.ValType.{ValType}
use Rattle.hph_wasm.specs.declared.types.FuncType.{FuncType}
use Rattle.hph_wasm.specs.declared.module.Func.{Func}
use Rattle.hph_wasm.specs.declared.module.Module.{Module}
use Rattle.hph_wasm.specs.Rows.{list_size}
use Rattle.hph_wasm.specs.Validity.{Context, under_label, IsSequence, IsBody, body_context}
use Rattle.hph_wasm.specs.Faults.{RowBegins}
use Rattle.hph_wasm.specs.Faults.{SequenceBegins, BodyBegins, IsFirstFault}
use Rattle.hph_wvalid.specs.Checking.{outer_scope, nothing, Verdict, Fine, Fault, closed_by, check_row, check_list, AgreesBlock}
use Rattle.hph_wvalid.proofs.Rows.{listed, rowed}
use Rattle.hph_wvalid.proofs.Views.{size_list, checks_list}
use Rattle.hph_wvalid.proofs.Checks.{Closed, well, bad, closed_told, tells_row, begins_size}

begins_listed : {j : _} (m : Module) (c : Context) (row : Row_of-Instr j) (n : ℕ) (from : List ValType) → RowBegins m c row n from → SequenceBegins m c (items-the_row-Instr _ row) n from
begins_listed m c end_of-Instr n from h = h
begins_listed m c (more_of-Instr i rest) n from (inl h) = inl h
begins_listed m c (more_of-Instr i rest) n from (inr (inl h)) = inr (inl h)
begins_listed m c (more_of-Instr i rest) n from (inr (inr h)) = inr (inr (h.0, h.1, h.2, h.3, begins_listed m c rest h.0 h.2 h.4))

begins_rowed : {j : _} (m : Module) (c : Context) (row : Row_of-Instr j) (n : ℕ) (from : List ValType) → SequenceBegins m c (items-the_row-Instr _ row) n from → RowBegins m c row n from
begins_rowed m c end_of-Instr n from h = h
begins_rowed m c (more_of-Instr i rest) n from (inl h) = inl h
begins_rowed m c (more_of-Instr i rest) n from (inr (inl h)) = inr (inl h)
begins_rowed m c (more_of-Instr i rest) n from (inr (inr h)) = inr (inr (h.0, h.1, h.2, h.3, begins_rowed m c rest h.0 h.2 h.4))

-- what the check's verdict on a body means
abbrev pub BodyTold : Module → FuncType → Func → Verdict → Type 0
BodyTold m ty f (Fine s) = IsBody m ty f
BodyTold m ty f (Fault k) = IsFirstFault m ty f k

closed_body : (m : Module) (ty : FuncType) (f : Func) (v : Verdict) → Closed m (body_context ty f) (hidden-the_row-Instr-0 f.body) (reverse ty.results) 0 nothing v → BodyTold m ty f v
closed_body m ty f (Fine s) (well r) = subst (λ l. IsSequence m (body_context ty f) l [] (reverse ty.results)) (items_hidden-the_row-Instr-0 f.body) (listed m (body_context ty f) (hidden-the_row-Instr-0 f.body) [] (reverse ty.results) r)
closed_body m ty f (Fault n) (bad k b nb nr) = subst (IsFirstFault m ty f) (sym (zero-add k)) (
  (let n = begins_size m (body_context ty f) (hidden-the_row-Instr-0 f.body) k [] b in omega (arith, n, size_list f.body)),
  inl (subst (λ l. SequenceBegins m (body_context ty f) l k []) (items_hidden-the_row-Instr-0 f.body) (begins_listed m (body_context ty f) (hidden-the_row-Instr-0 f.body) k [] b)),
  (λ h. further h),
)
  where
    back : (list : List Instr) → list ≡ f.body → (P : List Instr → Type 0) → P f.body → P list
    back list e P p = subst P (sym e) p

    further : BodyBegins m ty f (suc k) → ⊥
    further (inl h) = nb (begins_rowed m (body_context ty f) (hidden-the_row-Instr-0 f.body) (suc k) [] (back _ (items_hidden-the_row-Instr-0 f.body) (λ l. SequenceBegins m (body_context ty f) l (suc k) []) h))
    further (inr h) = nr (rowed m (body_context ty f) (hidden-the_row-Instr-0 f.body) [] (reverse ty.results) (back _ (items_hidden-the_row-Instr-0 f.body) (λ l. IsSequence m (body_context ty f) l [] (reverse ty.results)) h.1))

pub body_told : (m : Module) (ty : FuncType) (f : Func) → BodyTold m ty f (closed_by 0 (list_size f.body) (reverse ty.results) nothing (check_list m (body_context ty f) f.body nothing))
body_told m ty f =
    let row = hidden-the_row-Instr-0 f.body in
    let told = closed_body m ty f _ (closed_told m (body_context ty f) row (reverse ty.results) 0 nothing (check_row m (body_context ty f) row nothing) (tells_row m (body_context ty f) row nothing)) in
    subst (λ v. BodyTold m ty f (closed_by 0 (list_size f.body) (reverse ty.results) nothing v)) (checks_list m (body_context ty f) f.body nothing)
    (subst (λ n. BodyTold m ty f (closed_by 0 n (reverse ty.results) nothing (check_row m (body_context ty f) row nothing))) (size_list f.body) told)

-- What stands around the outermost label, where the code has no labels yet.
abbrev pub around : FuncType → Func → List (List ValType) → Context
around ty f labels = record { locals = ty.params ++ f.locals; labels = reverse labels; result = reverse ty.results }

pub outermost : (ty : FuncType) (f : Func) (labels : List (List ValType)) → labels ≡ [] → around ty f labels ≡ outer_scope ty f
outermost ty f labels none = ap (around ty f) none

-- what is answered
abbrev pub Answered : Module → FuncType → Func → Option ℕ → Type 0
Answered m ty f o = MatchOption o (IsBody m ty f) (λ k. IsFirstFault m ty f k)

pub valid_answer : (m : Module) (ty : FuncType) (f : Func) (v : Verdict) (to : ℕ) → BodyTold m ty f v → AgreesBlock v 0 to (list_size f.body) true → IsBody m ty f
valid_answer m ty f (Fine s) to t a = t
valid_answer m ty f (Fault k) to t a = absurd a

pub fault_answer : (m : Module) (ty : FuncType) (f : Func) (v : Verdict) (to : ℕ) → BodyTold m ty f v → AgreesBlock v 0 to (list_size f.body) false → IsFirstFault m ty f to
fault_answer m ty f (Fine s) to t a = absurd a
fault_answer m ty f (Fault k) to t a = let same : to ≡ k = omega (arith, a) in subst (IsFirstFault m ty f) (sym same) t

module _ (m : Module) (ty : FuncType) (f : Func) (to : ℕ) where
  At : List Instr → List ValType → List ValType → Context → Bool → Type 0
  At slice given label c ok = AgreesBlock (closed_by 0 (list_size slice) given nothing (check_list m (under_label label c) slice nothing)) 0 to (list_size slice) ok

  pub told_body : (slice : List Instr) (given label : List ValType) (c : Context) (ok b : Bool) →
      slice ≡ f.body → given ≡ reverse ty.results → label ≡ reverse ty.results → c ≡ outer_scope ty f → ok ≡ b →
      AgreesBlock (closed_by 0 (list_size slice) given nothing (check_list m (under_label label c) slice nothing)) 0 to (list_size slice) ok →
      AgreesBlock (closed_by 0 (list_size f.body) (reverse ty.results) nothing (check_list m (body_context ty f) f.body nothing)) 0 to (list_size f.body) b
  unfolding At
  told_body slice given label c ok b e1 e2 e3 e4 e5 h =
      let r = reverse ty.results in
      subst (λ x. At f.body r r (outer_scope ty f) x) e5 (subst (λ x. At f.body r r x ok) e4 (subst (λ x. At f.body r x c ok) e3 (subst (λ x. At f.body x label c ok) e2 (subst (λ x. At x given label c ok) e1 h))))
