-- The pass tells validity, and the first fault.
use Rattle.std.proofs.Common.{◌≡◌, ◌≤◌, ◌<◌, ◌∙◌, ℕ, suc, ◌+◌, ◌^◌, List, [], ◌∷◌, ◌++◌, Option, Some, None, Bool, true, false, cond, length, reverse, refl, sym, ap, subst, arith, ◌⊎◌, inl, inr}
use Rattle.std.specs.Prelude.{slice_get, nat_lt, nat_le, ◌&&◌}
use Rattle.std.specs.List.{AllByRecursion}
use Rattle.std.proofs.lemmas.Bool.{le-leb, lt-ltb, leb-true, ltb-true}
use Rattle.hph_wvalid.specs.Stacks.{Stack}
use Rattle.hph_wasm.specs.declared.instr.Instr.{Instr, Unreachable, Nop, Block', Loop', If', Br, BrIf, BrTable, Return, Call, CallIndirect, Drop, Select, LocalGet, LocalSet, LocalTee, GlobalGet, GlobalSet, Load, LoadNarrow, Store, StoreNarrow, I32Const, I64Const, Eqz, Compare, Unary, Binary, Wrap, Extend, Row_of-Instr, end_of-Instr, more_of-Instr, Held-Instr-If-2, None', Some'}
use Rattle.hph_wasm.specs.declared.types.ValType.{ValType}
use Rattle.hph_wasm.specs.declared.types.ValType.TheVariants.{I32, I64}
use Rattle.hph_wasm.specs.declared.types.BlockType.{BlockType}
use Rattle.hph_wasm.specs.declared.types.GlobalType.{GlobalType}
use Rattle.hph_wasm.specs.declared.instr.MemArg.{MemArg}
use Rattle.hph_wasm.specs.declared.module.Module.{Module}
use Rattle.hph_wvalid.specs.declared.stack.Kind.{Kind}
use Rattle.hph_wvalid.specs.declared.stack.Kind.TheVariants.{Known, Any}
use Rattle.hph_wasm.specs.Memory.{byte_width, load_type, load_bytes, store_type, store_bytes}
use Rattle.hph_wasm.specs.Choice.{if_some}
use Rattle.hph_wasm.specs.Functions.{func_type, tables, memories, globals}
use Rattle.hph_wasm.specs.Rows.{size, row_size, else_size}
use Rattle.hph_wasm.specs.Reduction.{same_types}
use Rattle.hph_wasm.specs.Validity.{Context, under_label, results_of, Takes, Ends, IsAccess, IsInstr, IsRow}
use Rattle.hph_wasm.specs.Faults.{RowBegins, InstrBegins, ElseBegins}
use Rattle.hph_wvalid.specs.Checking.{Signature, From, Last, is_kind, nothing, pop, pops, push_all, drop_of, select_of, all_labels, access, plain, obeyed, Verdict, Fine, Fault, first_at_fault, is_nil, ends, closed_by, and_then, later, check, check_row, check_else}
use Rattle.hph_wvalid.specs.Kinds.{Match, Holds, Strongest, Told, Obeys, TellsInstr, TellsRow}
use Rattle.hph_wvalid.proofs.Pops.{kind_true, kind_is, obeyed_told, drop_told, ends_true, holds_ends, some_stack, pops_sound, pops_complete}

told_as : (R S : List ValType → List ValType → Type 0) (s : Stack) (o : Option Stack) → Told S s o → ((from to : List ValType) → S from to → R from to) → ((from to : List ValType) → R from to → S from to) → Told R s o
told_as R S s None t f g = λ from to h r. t from to h (g from to r)
told_as R S s (Some s') t f g = ((λ from to h r. t.0 from to h (g from to r)), (λ to h. let b = t.1 to h in (b.0, b.1, f b.0 to b.2)))

by_some : {A : Type 0} (o : Option A) (go : A → Signature) (s : Stack) → Told (λ from to. (x : A) × (o ≡ Some x) × Obeys (Some (go x)) from to) s (obeyed (if_some o None (λ x. Some (go x))) s)
by_some None go s = λ from to h r. let e = r.1 in let no : ⊥ = cc in no
by_some (Some x) go s = told_as _ (Obeys (Some (go x))) s _ (obeyed_told (Some (go x)) s) (λ from to r. (x, refl, r)) (λ from to r. let e = r.1 in let same : r.0 ≡ x = cc in subst (λ x. Obeys (Some (go x)) from to) same r.2)

by_test : (b : Bool) (P : Type 0) (sig : Signature) (s : Stack) → (b ≡ true → P) → (P → b ≡ true) → Told (λ from to. P × Obeys (Some sig) from to) s (obeyed (cond b (Some sig) None) s)
by_test true P sig s f g = told_as _ (Obeys (Some sig)) s _ (obeyed_told (Some sig) s) (λ from to r. (f refl, r)) (λ from to r. r.1)
by_test false P sig s f g = λ from to h r. let e = g r.0 in let no : ⊥ = cc in no

by_both : {A : Type 0} (o : Option A) (b : A → Bool) (P : A → Type 0) (go : A → Signature) (s : Stack) → ((x : A) → b x ≡ true → P x) → ((x : A) → P x → b x ≡ true) →
    Told (λ from to. (x : A) × (o ≡ Some x) × P x × Obeys (Some (go x)) from to) s (obeyed (if_some o None (λ x. cond (b x) (Some (go x)) None)) s)
by_both None b P go s f g = λ from to h r. let e = r.1 in let no : ⊥ = cc in no
by_both (Some x) b P go s f g = told_as _ (λ from to. P x × Obeys (Some (go x)) from to) s _ (by_test (b x) (P x) (go x) s (f x) (g x))
    (λ from to r. (x, refl, r.0, r.1)) (λ from to r. let e = r.1 in let same : r.0 ≡ x = cc in subst (λ x. P x × Obeys (Some (go x)) from to) same (r.2, r.3))

both_true : (a b : Bool) → (a && b) ≡ true → (a ≡ true) × (b ≡ true)
both_true true true e = (refl, refl)
both_true true false e = let no : ⊥ = cc in absurd no
both_true false b e = let no : ⊥ = cc in absurd no

true_both : (a b : Bool) → a ≡ true → b ≡ true → (a && b) ≡ true
true_both a b p q = ap (λ a. a && b) p ∙ q

access_told : (m : Module) (n : ℕ) (a : MemArg) (sig : Signature) (s : Stack) → Told (λ from to. IsAccess m n a × Obeys (Some sig) from to) s (obeyed (access (memories m) n a sig) s)
access_told m n a sig s = by_test (nat_lt 0 (length (memories m)) && nat_le (2 ^ a.align) n) (IsAccess m n a) sig s
    (λ e. let b = both_true (nat_lt 0 (length (memories m))) (nat_le (2 ^ a.align) n) e in (ltb-true _ _ b.0, leb-true _ _ b.1))
    (λ p. true_both _ _ (lt-ltb _ _ p.0) (le-leb _ _ p.1))

-- a plain instruction
plain_tells : (m : Module) (c : Context) (i : Instr) (s : Stack) (o : Option Stack) → ((n : ℕ) (from : List ValType) → InstrBegins m c i n from → ⊥) → Told (IsInstr m c i) s o → TellsInstr m c i s (first_at_fault o)
plain_tells m c i s None none t = let q = some_stack s.kinds s.free in ((q.0, q.1, inl refl), (λ from h b. none 1 from b), t)
plain_tells m c i s (Some s') none t = t

mutual
  pub begins_size : {j : _} (m : Module) (c : Context) (row : Row_of-Instr j) (n : ℕ) (from : List ValType) → RowBegins m c row n from → n ≤ row_size row
  begins_size m c end_of-Instr n from h = omega (arith, h)
  begins_size m c (more_of-Instr i rest) n from (inl h) = omega (arith, h)
  begins_size m c (more_of-Instr i rest) n from (inr (inl h)) = let b = inside_size m c i n from h in omega (arith, b)
  begins_size m c (more_of-Instr i rest) n from (inr (inr h)) = let b = begins_size m c rest h.0 h.2 h.4 in omega (arith, b, h.1)

  inside_size : (m : Module) (c : Context) (i : Instr) (n : ℕ) (from : List ValType) → InstrBegins m c i n from → suc n ≤ size i
  inside_size m c (Block' t s body) n from h = let b = begins_size m (under_label (results_of t) c) body h.0 [] h.2 in omega (arith, b, h.1)
  inside_size m c (Loop' t s body) n from h = let b = begins_size m (under_label [] c) body h.0 [] h.2 in omega (arith, b, h.1)
  inside_size m c (If' t s body other) n from (d, inl h) = let b = begins_size m (under_label (results_of t) c) body h.0 [] h.2 in omega (arith, b, h.1)
  inside_size m c (If' t s body other) n from (d, inr h) = let b = else_begins m (under_label (results_of t) c) other (2 + row_size body) n h.1 in omega (arith, b)
  inside_size m c Unreachable n from h = absurd h
  inside_size m c Nop n from h = absurd h
  inside_size m c (Br _) n from h = absurd h
  inside_size m c (BrIf _) n from h = absurd h
  inside_size m c (BrTable _ _) n from h = absurd h
  inside_size m c Return n from h = absurd h
  inside_size m c (Call _) n from h = absurd h
  inside_size m c (CallIndirect _) n from h = absurd h
  inside_size m c Drop n from h = absurd h
  inside_size m c Select n from h = absurd h
  inside_size m c (LocalGet _) n from h = absurd h
  inside_size m c (LocalSet _) n from h = absurd h
  inside_size m c (LocalTee _) n from h = absurd h
  inside_size m c (GlobalGet _) n from h = absurd h
  inside_size m c (GlobalSet _) n from h = absurd h
  inside_size m c (Load _ _) n from h = absurd h
  inside_size m c (LoadNarrow _ _) n from h = absurd h
  inside_size m c (Store _ _) n from h = absurd h
  inside_size m c (StoreNarrow _ _) n from h = absurd h
  inside_size m c (I32Const _) n from h = absurd h
  inside_size m c (I64Const _) n from h = absurd h
  inside_size m c (Eqz _) n from h = absurd h
  inside_size m c (Compare _ _) n from h = absurd h
  inside_size m c (Unary _ _) n from h = absurd h
  inside_size m c (Binary _ _) n from h = absurd h
  inside_size m c Wrap n from h = absurd h
  inside_size m c (Extend _) n from h = absurd h

  else_begins : (m : Module) (c : Context) (other : Held-Instr-If-2) (at n : ℕ) → ElseBegins m c other at n → suc n ≤ at + else_size other
  else_begins m c None' at n h = absurd h
  else_begins m c (Some' s body) at n h = let b = begins_size m c body h.0 [] h.2 in omega (arith, b, h.1)

whole : {j : _} (m : Module) (c : Context) (row : Row_of-Instr j) (from to : List ValType) → IsRow m c row from to → RowBegins m c row (row_size row) from
whole m c end_of-Instr from to h = refl
whole m c (more_of-Instr i rest) from to h = inr (inr (row_size rest, refl, h.0, h.1, whole m c rest h.0 to h.2))

-- how a block's instructions come out
pub data Closed {j : _} (m : Module) (c : Context) (body : Row_of-Instr j) (results : List ValType) (at : ℕ) (next : Stack) : Verdict → Type 0 where
  well : IsRow m c body [] results → Closed m c body results at next (Fine next)
  bad : (k : ℕ) → RowBegins m c body k [] → (RowBegins m c body (suc k) [] → ⊥) → (IsRow m c body [] results → ⊥) → Closed m c body results at next (Fault (at + k))

pub end_told : {j : _} (m : Module) (c : Context) (body : Row_of-Instr j) (results : List ValType) (at : ℕ) (next b : Stack) (e : Bool) → ends results b ≡ e → Strongest (IsRow m c body) nothing b →
    Closed m c body results at next (cond e (Fine next) (Fault (at + row_size body)))
end_told m c body results at next b true e t =
    let q = t.1 results (ends_true results b e) in well (subst (λ x. IsRow m c body x results) q.1 q.2)
end_told m c body results at next b false e t =
    let p = some_stack b.kinds b.free in let q = t.1 p.0 p.1 in
    bad (row_size body) (subst (RowBegins m c body (row_size body)) q.1 (whole m c body q.0 p.0 q.2))
    (λ h. let n = begins_size m c body (suc (row_size body)) [] h in absurd (omega (arith, n)))
    (λ h. let w = holds_ends results b (t.0 [] results refl h) in let no : ⊥ = cc in no)

pub closed_told : {j : _} (m : Module) (c : Context) (body : Row_of-Instr j) (results : List ValType) (at : ℕ) (next : Stack) (v : Verdict) → TellsRow m c body nothing v → Closed m c body results at next (closed_by at (row_size body) results next v)
closed_told m c body results at next (Fault k) t =
    bad k (subst (RowBegins m c body k) t.0.1 t.0.2) (t.1 [] refl) (λ h. t.2 [] results refl h)
closed_told m c body results at next (Fine b) t = end_told m c body results at next b (ends results b) refl t

-- what is behind a block
pushed_told : (results : List ValType) (s : Stack) → Strongest (Takes [] results) s (push_all results s)
pushed_told results s = obeyed_told (Some (From [] results)) s

block_tells : (m : Module) (c : Context) (t : _) (sh : _) (body : _) (s : Stack) (v : Verdict) → Closed m (under_label (results_of t) c) body (results_of t) 1 (push_all (results_of t) s) v → TellsInstr m c (Block' t sh body) s v
block_tells m c t sh body s (Fine s') (well r) = let p = pushed_told (results_of t) s in ((λ from to h x. p.0 from to h x.1), (λ to h. let q = p.1 to h in (q.0, q.1, (r, q.2))))
block_tells m c t sh body s (Fault n) (bad k b nb nr) =
    let q = some_stack s.kinds s.free in
    ((q.0, q.1, inr (k, refl, b)), (λ from h x. let same : x.0 ≡ suc k = omega (arith, x.1) in nb (subst (λ n. RowBegins m (under_label (results_of t) c) body n []) same x.2)), (λ from to h x. nr x.0))

loop_tells : (m : Module) (c : Context) (t : _) (sh : _) (body : _) (s : Stack) (v : Verdict) → Closed m (under_label [] c) body (results_of t) 1 (push_all (results_of t) s) v → TellsInstr m c (Loop' t sh body) s v
loop_tells m c t sh body s (Fine s') (well r) = let p = pushed_told (results_of t) s in ((λ from to h x. p.0 from to h x.1), (λ to h. let q = p.1 to h in (q.0, q.1, (r, q.2))))
loop_tells m c t sh body s (Fault n) (bad k b nb nr) =
    let q = some_stack s.kinds s.free in
    ((q.0, q.1, inr (k, refl, b)), (λ from h x. let same : x.0 ≡ suc k = omega (arith, x.1) in nb (subst (λ n. RowBegins m (under_label [] c) body n []) same x.2)), (λ from to h x. nr x.0))

if_taken : (s : Stack) (results : List ValType) (o : Option Stack) → pop I32 s ≡ o → Told (Takes (I32 ∷ []) results) s (if_some o None (λ s. Some (push_all results s)))
if_taken s results None e = subst (λ o. Told (Takes (I32 ∷ []) results) s (if_some (if_some o None (pops [])) None (λ s. Some (push_all results s)))) e (obeyed_told (Some (From (I32 ∷ []) results)) s)
if_taken s results (Some s') e = subst (λ o. Told (Takes (I32 ∷ []) results) s (if_some (if_some o None (pops [])) None (λ s. Some (push_all results s)))) e (obeyed_told (Some (From (I32 ∷ []) results)) s)

-- some stack of these has a condition on top
an_if : (s s' : Stack) (results : List ValType) → Strongest (Takes (I32 ∷ []) results) s (push_all results s') → (from : List ValType) × Holds s from × Ends (I32 ∷ []) from
an_if s s' results t = let all = push_all results s' in let q = some_stack all.kinds all.free in let p = t.1 q.0 q.1 in (p.0, p.1, (p.2.0, p.2.1))

nil_true : (ts : List ValType) → is_nil ts ≡ true → ts ≡ []
nil_true [] e = refl
nil_true (t ∷ ts) e = let no : ⊥ = cc in absurd no

none_tells : (m : Module) (c : Context) (t : _) (sh : _) (body : _) (s s' : Stack) (e : Bool) → is_nil (results_of t) ≡ e → Strongest (Takes (I32 ∷ []) (results_of t)) s (push_all (results_of t) s') → IsRow m (under_label (results_of t) c) body [] (results_of t) →
    TellsInstr m c (If' t sh body None') s (cond e (Fine (push_all (results_of t) s')) (Fault (1 + row_size body)))
none_tells m c t sh body s s' true e p r = ((λ from to h x. p.0 from to h x.2), (λ to h. let q = p.1 to h in (q.0, q.1, (r, sym (nil_true (results_of t) e), q.2))))
none_tells m c t sh body s s' false e p r =
    let q = an_if s s' (results_of t) p in (
      (q.0, q.1, inr (q.2, inl (row_size body, refl, whole m (under_label (results_of t) c) body [] (results_of t) r))),
      (λ from h x. too_far x.1),
      (λ from to h x. let w : is_nil (results_of t) ≡ true = ap is_nil (sym x.1) in let no : ⊥ = cc in no),
    )
  where
    too_far : ((k : ℕ) × (suc (1 + row_size body) ≡ 1 + k) × RowBegins m (under_label (results_of t) c) body k []) ⊎ (IsRow m (under_label (results_of t) c) body [] (results_of t) × ⊥) → ⊥
    too_far (inl x) = let n = begins_size m (under_label (results_of t) c) body x.0 [] x.2 in absurd (omega (arith, n, x.1))
    too_far (inr x) = x.1

other_tells : (m : Module) (c : Context) (t : _) (sh : _) (body : _) (sh2 : _) (other : _) (s s' : Stack) (v : Verdict) → Strongest (Takes (I32 ∷ []) (results_of t)) s (push_all (results_of t) s') → IsRow m (under_label (results_of t) c) body [] (results_of t) →
    Closed m (under_label (results_of t) c) other (results_of t) (2 + row_size body) (push_all (results_of t) s') v → TellsInstr m c (If' t sh body (Some' sh2 other)) s v
other_tells m c t sh body sh2 other s s' (Fine s2) p r (well r2) = ((λ from to h x. p.0 from to h x.2), (λ to h. let q = p.1 to h in (q.0, q.1, (r, r2, q.2))))
other_tells m c t sh body sh2 other s s' (Fault n) p r (bad k b nb nr) =
    let q = an_if s s' (results_of t) p in
    ((q.0, q.1, inr (q.2, inr (r, (k, refl, b)))), (λ from h x. too_far x.1), (λ from to h x. nr x.1))
  where
    too_far : ((j : ℕ) × (suc (2 + row_size body + k) ≡ 1 + j) × RowBegins m (under_label (results_of t) c) body j []) ⊎ (IsRow m (under_label (results_of t) c) body [] (results_of t) × ((j : ℕ) × (suc (2 + row_size body + k) ≡ 2 + row_size body + j) × RowBegins m (under_label (results_of t) c) other j [])) → ⊥
    too_far (inl x) = let n = begins_size m (under_label (results_of t) c) body x.0 [] x.2 in absurd (omega (arith, n, x.1))
    too_far (inr x) = let same : x.1.0 ≡ suc k = omega (arith, x.1.1) in nb (subst (λ n. RowBegins m (under_label (results_of t) c) other n []) same x.1.2)

-- what the second branch has to tell once the first is well
ElseTold : (m : Module) (c : Context) (t : BlockType) (body : ℕ) (other : Held-Instr-If-2) (next : Stack) (v : Verdict) → Type 0
ElseTold m c t body None' next v = Unit {0}
ElseTold m c t body (Some' sh2 other) next v = Closed m (under_label (results_of t) c) other (results_of t) (2 + body) next v

first_tells : (m : Module) (c : Context) (t : _) (sh : _) (body : _) (other : Held-Instr-If-2) (s s' : Stack) (v : Verdict) → Strongest (Takes (I32 ∷ []) (results_of t)) s (push_all (results_of t) s') →
    Closed m (under_label (results_of t) c) body (results_of t) 1 (push_all (results_of t) s') v →
    ElseTold m c t (row_size body) other (push_all (results_of t) s') (check_else m (under_label (results_of t) c) other (row_size body) (results_of t) (push_all (results_of t) s')) →
    TellsInstr m c (If' t sh body other) s (and_then v (λ next. check_else m (under_label (results_of t) c) other (row_size body) (results_of t) next))
unfolding ElseTold
first_tells m c t sh body None' s s' (Fine s2) p (well r) e = none_tells m c t sh body s s' (is_nil (results_of t)) refl p r
first_tells m c t sh body (Some' sh2 other) s s' (Fine s2) p (well r) e = other_tells m c t sh body sh2 other s s' _ p r e
first_tells m c t sh body other s s' (Fault n) p (bad k b nb nr) e =
    let q = an_if s s' (results_of t) p in
    ((q.0, q.1, inr (q.2, inl (k, refl, b))), (λ from h x. too_far x.1), (λ from to h x. nr x.0))
  where
    too_far : ((j : ℕ) × (suc (1 + k) ≡ 1 + j) × RowBegins m (under_label (results_of t) c) body j []) ⊎ (IsRow m (under_label (results_of t) c) body [] (results_of t) × ElseBegins m (under_label (results_of t) c) other (2 + row_size body) (suc (1 + k))) → ⊥
    too_far (inl x) = let same : x.0 ≡ suc k = omega (arith, x.1) in nb (subst (λ n. RowBegins m (under_label (results_of t) c) body n []) same x.2)
    too_far (inr x) = nr x.0

if_tells : (m : Module) (c : Context) (t : _) (sh : _) (body : _) (other : Held-Instr-If-2) (s : Stack) (o : Option Stack) → pop I32 s ≡ o → TellsRow m (under_label (results_of t) c) body nothing (check_row m (under_label (results_of t) c) body nothing) →
    ((next : Stack) → ElseTold m c t (row_size body) other next (check_else m (under_label (results_of t) c) other (row_size body) (results_of t) next)) →
    TellsInstr m c (If' t sh body other) s (and_then (first_at_fault o) (λ st. and_then (closed_by 1 (row_size body) (results_of t) (push_all (results_of t) st) (check_row m (under_label (results_of t) c) body nothing)) (λ next. check_else m (under_label (results_of t) c) other (row_size body) (results_of t) next)))
if_tells m c t sh body other s None e r k =
    let p = if_taken s (results_of t) None e in
    let q = some_stack s.kinds s.free in
    ((q.0, q.1, inl refl), (λ from h x. p from (results_of t ++ x.0.0) h (x.0.0, x.0.1, refl)), (λ from to h x. p from to h x.2))
if_tells m c t sh body other s (Some s') e r k =
    first_tells m c t sh body other s s' _ (if_taken s (results_of t) (Some s') e)
    (closed_told m (under_label (results_of t) c) body (results_of t) 1 (push_all (results_of t) s') (check_row m (under_label (results_of t) c) body nothing) r) (k (push_all (results_of t) s'))

-- a row goes on behind its first instruction
rest_tells : {j : _} (m : Module) (c : Context) (i : Instr) (rest : Row_of-Instr j) (s s1 : Stack) (v : Verdict) → Strongest (IsInstr m c i) s s1 → TellsRow m c rest s1 v → TellsRow m c (more_of-Instr i rest) s (later (size i) v)
rest_tells m c i rest s s1 (Fine s2) p t = (
  (λ from to h x. t.0 x.0 to (p.0 from x.0 h x.1) x.2),
  (λ to h. let q = t.1 to h in let w = p.1 q.0 q.1 in (w.0, w.1, (q.0, w.2, q.2))),
)
rest_tells m c i rest s s1 (Fault k) p t = (
  (let w = p.1 t.0.0 t.0.1 in (w.0, w.1, inr (inr (k, refl, t.0.0, w.2, t.0.2)))),
  (λ from h x. too_far from h x),
  (λ from to h x. t.2 x.0 to (p.0 from x.0 h x.1) x.2),
)
  where
    too_far : (from : List ValType) → Holds s from → (suc (size i + k) ≡ 0) ⊎ (InstrBegins m c i (suc (size i + k)) from ⊎ ((j : ℕ) × (suc (size i + k) ≡ size i + j) × (mid : List ValType) × IsInstr m c i from mid × RowBegins m c rest j mid)) → ⊥
    too_far from h (inl x) = absurd (omega (arith, x))
    too_far from h (inr (inl x)) = let n = inside_size m c i (suc (size i + k)) from x in absurd (omega (arith, n))
    too_far from h (inr (inr x)) = let same : x.0 ≡ suc k = omega (arith, x.1) in t.1 x.2 (p.0 from x.2 h x.3) (subst (λ n. RowBegins m c rest n x.2) same x.4)

row_tells : {j : _} (m : Module) (c : Context) (i : Instr) (rest : Row_of-Instr j) (s : Stack) (v : Verdict) → TellsInstr m c i s v → ((s1 : Stack) → TellsRow m c rest s1 (check_row m c rest s1)) →
    TellsRow m c (more_of-Instr i rest) s (and_then v (λ st. later (size i) (check_row m c rest st)))
row_tells m c i rest s (Fine s1) t k = rest_tells m c i rest s s1 (check_row m c rest s1) t (k s1)
row_tells m c i rest s (Fault n) t k = (
  (t.0.0, t.0.1, inside t.0.2),
  (λ from h x. too_far from h x),
  (λ from to h x. t.2 from x.0 h x.1),
)
  where
    inside : (n ≡ 0) ⊎ InstrBegins m c i n t.0.0 → RowBegins m c (more_of-Instr i rest) n t.0.0
    inside (inl e) = inl e
    inside (inr b) = inr (inl b)

    too_far : (from : List ValType) → Holds s from → RowBegins m c (more_of-Instr i rest) (suc n) from → ⊥
    too_far from h (inl x) = absurd (omega (arith, x))
    too_far from h (inr (inl x)) = t.1 from h x
    too_far from h (inr (inr x)) = t.2 from x.2 h x.3

same_true : (ts us : List ValType) → same_types ts us ≡ true → ts ≡ us
same_true [] [] e = refl
same_true [] (I32 ∷ us) e = let no : ⊥ = cc in absurd no
same_true [] (I64 ∷ us) e = let no : ⊥ = cc in absurd no
same_true (I32 ∷ ts) [] e = let no : ⊥ = cc in absurd no
same_true (I64 ∷ ts) [] e = let no : ⊥ = cc in absurd no
same_true (I32 ∷ ts) (I32 ∷ us) e = ap (λ l. I32 ∷ l) (same_true ts us e)
same_true (I64 ∷ ts) (I64 ∷ us) e = ap (λ l. I64 ∷ l) (same_true ts us e)
same_true (I32 ∷ ts) (I64 ∷ us) e = let no : ⊥ = cc in absurd no
same_true (I64 ∷ ts) (I32 ∷ us) e = let no : ⊥ = cc in absurd no

same_self : (ts : List ValType) → same_types ts ts ≡ true
same_self [] = refl
same_self (I32 ∷ ts) = same_self ts
same_self (I64 ∷ ts) = same_self ts

label_true : (o : Option (List ValType)) (ts : List ValType) → if_some o false (same_types ts) ≡ true → o ≡ Some ts
label_true None ts e = let no : ⊥ = cc in absurd no
label_true (Some us) ts e = ap Some (sym (same_true ts us e))

all_true : (labels : List (List ValType)) (ts : List ValType) (ks : List ℕ) → all_labels labels ts ks ≡ true → AllByRecursion (λ k. slice_get labels k ≡ Some ts) ks
all_true labels ts [] e = tt
all_true labels ts (k ∷ ks) e = let b = both_true _ _ e in (label_true (slice_get labels k) ts b.0, all_true labels ts ks b.1)

true_all : (labels : List (List ValType)) (ts : List ValType) (ks : List ℕ) → AllByRecursion (λ k. slice_get labels k ≡ Some ts) ks → all_labels labels ts ks ≡ true
true_all labels ts [] h = refl
true_all labels ts (k ∷ ks) h = true_both _ _ (ap (λ o. if_some o false (same_types ts)) h.0 ∙ same_self ts) (true_all labels ts ks h.1)

-- two values of one type below the one that chooses
Chosen : List ValType → List ValType → Type 0
Chosen from to = (t : ValType) × Takes (t ∷ t ∷ []) (t ∷ []) from to

one_type : (t : ValType) (k : Kind) (kinds : List Kind) (free b : Bool) → is_kind t k ≡ b → Told Chosen (record { kinds = Known t ∷ k ∷ kinds; free = free }) (cond b (Some (record { kinds = Known t ∷ kinds; free = free })) None)
unfolding Chosen
one_type t k kinds free true e = (
  (λ from to h r. let g = subst (Match (Known t ∷ k ∷ kinds) free) r.1.1 h in subst (Match (Known t ∷ kinds) free) (sym r.1.2) (g.0, g.1.1)),
  (λ to h. given to h),
)
  where
    given : (to : List ValType) → Match (Known t ∷ kinds) free to → (from : List ValType) × Match (Known t ∷ k ∷ kinds) free from × ((u : ValType) × Takes (u ∷ u ∷ []) (u ∷ []) from to)
    given [] h = absurd h
    given (u ∷ to) h = (t ∷ t ∷ to, (refl, (kind_true t k e, h.1)), (t, (to, refl, ap (λ x. x ∷ to) (sym h.0))))
one_type t k kinds free false e = λ from to h r.
    let g = subst (Match (Known t ∷ k ∷ kinds) free) r.1.1 h in
    let w : is_kind t k ≡ true = ap (λ t. is_kind t k) g.0 ∙ kind_is r.0 k g.1.0 in let no : ⊥ = cc in no

chosen_told : (kinds : List Kind) (free : Bool) → Told Chosen (record { kinds = kinds; free = free }) (select_of kinds free)
unfolding Chosen
chosen_told [] true = ((λ from to h r. subst (Match (Any ∷ []) true) (sym r.1.2) (tt, tt)), (λ to h. given to h))
  where
    given : (to : List ValType) → Match (Any ∷ []) true to → (from : List ValType) × Unit {0} × ((u : ValType) × Takes (u ∷ u ∷ []) (u ∷ []) from to)
    given [] h = absurd h
    given (u ∷ to) h = (u ∷ u ∷ to, tt, (u, (to, refl, refl)))
chosen_told [] false = λ from to h r. let e : [] ≡ r.0 ∷ r.0 ∷ r.1.0 = sym h ∙ r.1.1 in let no : ⊥ = cc in no
chosen_told (k ∷ []) true = ((λ from to h r. let g = subst (Match (k ∷ []) true) r.1.1 h in subst (Match (k ∷ []) true) (sym r.1.2) (g.0, tt)), (λ to h. given to h))
  where
    given : (to : List ValType) → Match (k ∷ []) true to → (from : List ValType) × Match (k ∷ []) true from × ((u : ValType) × Takes (u ∷ u ∷ []) (u ∷ []) from to)
    given [] h = absurd h
    given (u ∷ to) h = (u ∷ u ∷ to, (h.0, tt), (u, (to, refl, refl)))
chosen_told (k ∷ []) false = λ from to h r. let g = subst (Match (k ∷ []) false) r.1.1 h in let e = g.1 in let no : ⊥ = cc in no
chosen_told (Any ∷ k ∷ kinds) free = ((λ from to h r. let g = subst (Match (Any ∷ k ∷ kinds) free) r.1.1 h in subst (Match (k ∷ kinds) free) (sym r.1.2) g.1), (λ to h. given to h))
  where
    given : (to : List ValType) → Match (k ∷ kinds) free to → (from : List ValType) × Match (Any ∷ k ∷ kinds) free from × ((u : ValType) × Takes (u ∷ u ∷ []) (u ∷ []) from to)
    given [] h = absurd h
    given (u ∷ to) h = (u ∷ u ∷ to, (tt, h), (u, (to, refl, refl)))
chosen_told (Known t ∷ k ∷ kinds) free = one_type t k kinds free (is_kind t k) refl

select_after : (s s' : Stack) (o : Option Stack) → pops (I32 ∷ []) s ≡ Some s' → Told Chosen s' o → Told (λ from to. (t : ValType) × Takes (I32 ∷ t ∷ t ∷ []) (t ∷ []) from to) s o
unfolding Chosen
select_after s s' None e t = λ from to h r.
    let p = pops_complete (I32 ∷ []) s (r.0 ∷ r.0 ∷ r.1.0) (subst (Holds s) r.1.1 h) in let same : p.0 ≡ s' = cc in
    t (r.0 ∷ r.0 ∷ r.1.0) to (subst (λ s. Holds s (r.0 ∷ r.0 ∷ r.1.0)) same p.2) (r.0, (r.1.0, refl, r.1.2))
select_after s s' (Some s2) e t = (
  (λ from to h r.
      let p = pops_complete (I32 ∷ []) s (r.0 ∷ r.0 ∷ r.1.0) (subst (Holds s) r.1.1 h) in let same : p.0 ≡ s' = cc in
      t.0 (r.0 ∷ r.0 ∷ r.1.0) to (subst (λ s. Holds s (r.0 ∷ r.0 ∷ r.1.0)) same p.2) (r.0, (r.1.0, refl, r.1.2))),
  (λ to h. let q = t.1 to h in (I32 ∷ q.0, pops_sound (I32 ∷ []) s s' e q.0 q.1, (q.2.0, (q.2.1.0, ap (λ x. I32 ∷ x) q.2.1.1, q.2.1.2)))),
)

select_by : (s : Stack) (o : Option Stack) → pop I32 s ≡ o → Told (λ from to. (t : ValType) × Takes (I32 ∷ t ∷ t ∷ []) (t ∷ []) from to) s (if_some o None (λ st. select_of st.kinds st.free))
select_by s None e = λ from to h r. let p = pops_complete (I32 ∷ []) s (r.0 ∷ r.0 ∷ r.1.0) (subst (Holds s) r.1.1 h) in let w : None ≡ Some p.0 = ap (λ o. if_some o None (pops [])) (sym e) ∙ p.1 in let no : ⊥ = cc in no
select_by s (Some s') e = select_after s s' (select_of s'.kinds s'.free) (ap (λ o. if_some o None (pops [])) e) (chosen_told s'.kinds s'.free)

select_told : (s : Stack) → Told (λ from to. (t : ValType) × Takes (I32 ∷ t ∷ t ∷ []) (t ∷ []) from to) s (if_some (pop I32 s) None (λ st. select_of st.kinds st.free))
select_told s = select_by s (pop I32 s) refl

-- The type of a global, and that it can be set.
get_told : (o : Option GlobalType) (s : Stack) → Told (λ from to. (ty : ValType) × (mutable : Bool) × (o ≡ Some (record { value = ty; mutable = mutable })) × Takes [] (ty ∷ []) from to) s
    (obeyed (if_some o None (λ g. Some (From [] (g.value ∷ [])))) s)
get_told o s = told_as _ (λ from to. (g : GlobalType) × (o ≡ Some g) × Obeys (Some (From [] (g.value ∷ []))) from to) s _ (by_some o (λ g. From [] (g.value ∷ [])) s)
    (λ from to r. (r.0.value, r.0.mutable, r.1, r.2)) (λ from to r. (record { value = r.0; mutable = r.1 }, r.2, r.3))

set_told : (o : Option GlobalType) (s : Stack) → Told (λ from to. (ty : ValType) × (o ≡ Some (record { value = ty; mutable = true })) × Takes (ty ∷ []) [] from to) s
    (obeyed (if_some o None (λ g. cond g.mutable (Some (From (g.value ∷ []) [])) None)) s)
set_told o s = told_as _ (λ from to. (g : GlobalType) × (o ≡ Some g) × (g.mutable ≡ true) × Obeys (Some (From (g.value ∷ []) [])) from to) s _
    (by_both o (λ g. g.mutable) (λ g. g.mutable ≡ true) (λ g. From (g.value ∷ []) []) s (λ g e. e) (λ g e. e))
    (λ from to r. (r.0.value, r.1 ∙ ap Some (as_set r.0 r.2), r.3)) (λ from to r. (record { value = r.0; mutable = true }, r.1, refl, r.2))
  where
    as_set : (g : GlobalType) → g.mutable ≡ true → g ≡ record { value = g.value; mutable = true }
    as_set g e = λ i. record { value = g.value; mutable = e i }

module _ (m : Module) where
  mutual
    unfolding ElseTold

    tells_instr : (c : Context) (i : Instr) (s : Stack) → TellsInstr m c i s (check m c i s)
    tells_instr c (Block' t sh body) s = block_tells m c t sh body s _ (closed_told m (under_label (results_of t) c) body (results_of t) 1 (push_all (results_of t) s) (check_row m (under_label (results_of t) c) body nothing) (tells_row (under_label (results_of t) c) body nothing))
    tells_instr c (Loop' t sh body) s = loop_tells m c t sh body s _ (closed_told m (under_label [] c) body (results_of t) 1 (push_all (results_of t) s) (check_row m (under_label [] c) body nothing) (tells_row (under_label [] c) body nothing))
    tells_instr c (If' t sh body other) s = if_tells m c t sh body other s (pop I32 s) refl (tells_row (under_label (results_of t) c) body nothing) (tells_else c t (row_size body) other)
    tells_instr c Unreachable s = plain_tells m c Unreachable s (obeyed (plain m c Unreachable) s) (λ n from x. x) (told_as (IsInstr m c Unreachable) (Obeys (Some (Last []))) s (obeyed (Some (Last [])) s) (obeyed_told (Some (Last [])) s) (λ from to r. tt) (λ from to r. (from, refl)))
    tells_instr c Nop s = plain_tells m c Nop s (obeyed (plain m c Nop) s) (λ n from x. x) (told_as (IsInstr m c Nop) (Obeys (Some (From [] []))) s (obeyed (Some (From [] [])) s) (obeyed_told (Some (From [] [])) s) (λ from to r. r.1 ∙ sym r.2) (λ from to r. (from, refl, sym r)))
    tells_instr c (Br k) s = plain_tells m c (Br k) s (obeyed (plain m c (Br k)) s) (λ n from x. x) (by_some (slice_get c.labels k) (λ ts. Last ts) s)
    tells_instr c (BrIf k) s = plain_tells m c (BrIf k) s (obeyed (plain m c (BrIf k)) s) (λ n from x. x) (by_some (slice_get c.labels k) (λ ts. From (I32 ∷ ts) ts) s)
    tells_instr c (BrTable ks k) s = plain_tells m c (BrTable ks k) s (obeyed (plain m c (BrTable ks k)) s) (λ n from x. x) (by_both (slice_get c.labels k) (λ ts. all_labels c.labels ts ks) (λ ts. AllByRecursion (λ k. slice_get c.labels k ≡ Some ts) ks) (λ ts. Last (I32 ∷ ts)) s (λ ts. all_true c.labels ts ks) (λ ts. true_all c.labels ts ks))
    tells_instr c Return s = plain_tells m c Return s (obeyed (plain m c Return) s) (λ n from x. x) (obeyed_told (Some (Last c.result)) s)
    tells_instr c (Call f) s = plain_tells m c (Call f) s (obeyed (plain m c (Call f)) s) (λ n from x. x) (by_some (func_type m f) (λ ty. From (reverse ty.params) (reverse ty.results)) s)
    tells_instr c (CallIndirect n) s = plain_tells m c (CallIndirect n) s (obeyed (plain m c (CallIndirect n)) s) (λ n from x. x) (by_both (slice_get m.types n) (λ ty. nat_lt 0 (length (tables m))) (λ ty. 0 < length (tables m)) (λ ty. From (I32 ∷ reverse ty.params) (reverse ty.results)) s (λ ty. ltb-true _ _) (λ ty. lt-ltb _ _))
    tells_instr c Drop s = plain_tells m c Drop s (drop_of s.kinds s.free) (λ n from x. x) (drop_told s.kinds s.free)
    tells_instr c Select s = plain_tells m c Select s (if_some (pop I32 s) None (λ st. select_of st.kinds st.free)) (λ n from x. x) (select_told s)
    tells_instr c (LocalGet x) s = plain_tells m c (LocalGet x) s (obeyed (plain m c (LocalGet x)) s) (λ n from x. x) (by_some (slice_get c.locals x) (λ t. From [] (t ∷ [])) s)
    tells_instr c (LocalSet x) s = plain_tells m c (LocalSet x) s (obeyed (plain m c (LocalSet x)) s) (λ n from x. x) (by_some (slice_get c.locals x) (λ t. From (t ∷ []) []) s)
    tells_instr c (LocalTee x) s = plain_tells m c (LocalTee x) s (obeyed (plain m c (LocalTee x)) s) (λ n from x. x) (by_some (slice_get c.locals x) (λ t. From (t ∷ []) (t ∷ [])) s)
    tells_instr c (GlobalGet x) s = plain_tells m c (GlobalGet x) s (obeyed (plain m c (GlobalGet x)) s) (λ n from x. x) (get_told (slice_get (globals m) x) s)
    tells_instr c (GlobalSet x) s = plain_tells m c (GlobalSet x) s (obeyed (plain m c (GlobalSet x)) s) (λ n from x. x) (set_told (slice_get (globals m) x) s)
    tells_instr c (Load t a) s = plain_tells m c (Load t a) s (obeyed (plain m c (Load t a)) s) (λ n from x. x) (access_told m (byte_width t) a (From (I32 ∷ []) (t ∷ [])) s)
    tells_instr c (LoadNarrow load a) s = plain_tells m c (LoadNarrow load a) s (obeyed (plain m c (LoadNarrow load a)) s) (λ n from x. x) (access_told m (load_bytes load) a (From (I32 ∷ []) (load_type load ∷ [])) s)
    tells_instr c (Store t a) s = plain_tells m c (Store t a) s (obeyed (plain m c (Store t a)) s) (λ n from x. x) (access_told m (byte_width t) a (From (t ∷ I32 ∷ []) []) s)
    tells_instr c (StoreNarrow store a) s = plain_tells m c (StoreNarrow store a) s (obeyed (plain m c (StoreNarrow store a)) s) (λ n from x. x) (access_told m (store_bytes store) a (From (store_type store ∷ I32 ∷ []) []) s)
    tells_instr c (I32Const z) s = plain_tells m c (I32Const z) s (obeyed (plain m c (I32Const z)) s) (λ n from x. x) (obeyed_told (Some (From [] (I32 ∷ []))) s)
    tells_instr c (I64Const z) s = plain_tells m c (I64Const z) s (obeyed (plain m c (I64Const z)) s) (λ n from x. x) (obeyed_told (Some (From [] (I64 ∷ []))) s)
    tells_instr c (Eqz t) s = plain_tells m c (Eqz t) s (obeyed (plain m c (Eqz t)) s) (λ n from x. x) (obeyed_told (Some (From (t ∷ []) (I32 ∷ []))) s)
    tells_instr c (Compare t o) s = plain_tells m c (Compare t o) s (obeyed (plain m c (Compare t o)) s) (λ n from x. x) (obeyed_told (Some (From (t ∷ t ∷ []) (I32 ∷ []))) s)
    tells_instr c (Unary t o) s = plain_tells m c (Unary t o) s (obeyed (plain m c (Unary t o)) s) (λ n from x. x) (obeyed_told (Some (From (t ∷ []) (t ∷ []))) s)
    tells_instr c (Binary t o) s = plain_tells m c (Binary t o) s (obeyed (plain m c (Binary t o)) s) (λ n from x. x) (obeyed_told (Some (From (t ∷ t ∷ []) (t ∷ []))) s)
    tells_instr c Wrap s = plain_tells m c Wrap s (obeyed (plain m c Wrap) s) (λ n from x. x) (obeyed_told (Some (From (I64 ∷ []) (I32 ∷ []))) s)
    tells_instr c (Extend sg) s = plain_tells m c (Extend sg) s (obeyed (plain m c (Extend sg)) s) (λ n from x. x) (obeyed_told (Some (From (I32 ∷ []) (I64 ∷ []))) s)

    pub tells_row : {j : _} (c : Context) (row : Row_of-Instr j) (s : Stack) → TellsRow m c row s (check_row m c row s)
    tells_row c end_of-Instr s = ((λ from to h x. subst (Holds s) x h), (λ to h. (to, h, refl)))
    tells_row c (more_of-Instr i rest) s = row_tells m c i rest s (check m c i s) (tells_instr c i s) (λ s1. tells_row c rest s1)

    tells_else : (c : Context) (t : BlockType) (n : ℕ) (other : Held-Instr-If-2) (next : Stack) → ElseTold m c t n other next (check_else m (under_label (results_of t) c) other n (results_of t) next)
    tells_else c t n None' next = tt
    tells_else c t n (Some' sh body) next = closed_told m (under_label (results_of t) c) body (results_of t) (2 + n) next (check_row m (under_label (results_of t) c) body nothing) (tells_row (under_label (results_of t) c) body nothing)
