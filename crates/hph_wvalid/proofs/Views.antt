-- What was said of rows, of the lists that the code sees.
use Rattle.std.proofs.Common.{◌≡◌, ◌∙◌, ℕ, ◌+◌, List, [], ◌∷◌, Bool, true, false, cond, Option, Some, None, refl, sym, ap, subst, arith}
use Rattle.hph_wasm.specs.declared.instr.Instr.{Instr, Block, Loop, If, Row_of-Instr, end_of-Instr, more_of-Instr, items-the_row-Instr, items_hidden-the_row-Instr-0}
use Rattle.hph_wasm.specs.declared.instr.Instr.TheBlock.{hidden-the_row-Instr-0}
use Rattle.hph_wasm.specs.declared.types.ValType.{ValType}
use Rattle.hph_wasm.specs.declared.types.ValType.TheVariants.{I32}
use Rattle.hph_wasm.specs.declared.types.BlockType.{BlockType}
use Rattle.hph_wasm.specs.declared.module.Module.{Module}
use Rattle.hph_wvalid.specs.Stacks.{Stack}
use Rattle.hph_wasm.specs.Rows.{size, row_size, list_size}
use Rattle.hph_wasm.specs.Validity.{Context, under_label, results_of}
use Rattle.hph_wvalid.specs.Checking.{pop, is_nil, first_at_fault, block_verdict, alone_verdict, branches_verdict, Verdict, Fine, Fault, Agrees, AgreesBlock, ends, nothing, push_all, closed_by, and_then, later, check, check_row, check_list}

size_rows : {n : _} (row : Row_of-Instr n) → row_size row ≡ list_size (items-the_row-Instr _ row)
size_rows end_of-Instr = refl
size_rows (more_of-Instr i rest) = ap (λ n. size i + n) (size_rows rest)

and_same : (v : Verdict) (f g : Stack → Verdict) → ((s : Stack) → f s ≡ g s) → and_then v f ≡ and_then v g
and_same (Fine s) f g h = h s
and_same (Fault k) f g h = refl

check_rows : {n : _} (m : Module) (c : Context) (row : Row_of-Instr n) (s : Stack) → check_row m c row s ≡ check_list m c (items-the_row-Instr _ row) s
check_rows m c end_of-Instr s = refl
check_rows m c (more_of-Instr i rest) s = and_same (check m c i s) _ _ (λ s1. ap (later (size i)) (check_rows m c rest s1))

pub size_list : (list : List Instr) → row_size (hidden-the_row-Instr-0 list) ≡ list_size list
size_list list = size_rows (hidden-the_row-Instr-0 list) ∙ ap list_size (items_hidden-the_row-Instr-0 list)

pub checks_list : (m : Module) (c : Context) (list : List Instr) (s : Stack) → check_row m c (hidden-the_row-Instr-0 list) s ≡ check_list m c list s
checks_list m c list s = check_rows m c (hidden-the_row-Instr-0 list) s ∙ ap (λ l. check_list m c l s) (items_hidden-the_row-Instr-0 list)

pub size_block : (t : BlockType) (list : List Instr) → size (Block t list) ≡ 2 + list_size list
size_block t list = ap (λ n. 2 + n) (size_list list)

pub size_loop : (t : BlockType) (list : List Instr) → size (Loop t list) ≡ 2 + list_size list
size_loop t list = ap (λ n. 2 + n) (size_list list)

pub size_if_alone : (t : BlockType) (list : List Instr) → size (If t list None) ≡ 2 + list_size list
size_if_alone t list = ap (λ n. 2 + (n + 0)) (size_list list) ∙ omega arith

pub size_if_else : (t : BlockType) (list other : List Instr) → size (If t list (Some other)) ≡ 2 + (list_size list + (1 + list_size other))
size_if_else t list other =
    ap (λ n. 2 + (n + (1 + row_size (hidden-the_row-Instr-0 other)))) (size_list list) ∙ ap (λ n. 2 + (list_size list + (1 + n))) (size_list other)

pub check_block_list : (m : Module) (c : Context) (t : BlockType) (list : List Instr) (s : Stack) →
    check m c (Block t list) s ≡ block_verdict m c (results_of t) t list s
check_block_list m c t list s = ap (λ n. closed_by 1 n (results_of t) (push_all (results_of t) s) (check_row m (under_label (results_of t) c) (hidden-the_row-Instr-0 list) nothing)) (size_list list)
    ∙ ap (closed_by 1 (list_size list) (results_of t) (push_all (results_of t) s)) (checks_list m (under_label (results_of t) c) list nothing)

pub check_loop_list : (m : Module) (c : Context) (t : BlockType) (list : List Instr) (s : Stack) →
    check m c (Loop t list) s ≡ block_verdict m c [] t list s
check_loop_list m c t list s = ap (λ n. closed_by 1 n (results_of t) (push_all (results_of t) s) (check_row m (under_label [] c) (hidden-the_row-Instr-0 list) nothing)) (size_list list)
    ∙ ap (closed_by 1 (list_size list) (results_of t) (push_all (results_of t) s)) (checks_list m (under_label [] c) list nothing)

-- An `if` without `else`.
pub check_alone_list : (m : Module) (c : Context) (t : BlockType) (list : List Instr) (s : Stack) →
    check m c (If t list None) s ≡ and_then (first_at_fault (pop I32 s)) (alone_verdict m c t list)
check_alone_list m c t list s = and_same (first_at_fault (pop I32 s)) _ _ (λ st.
    ap (λ n. and_then (closed_by 1 n (results_of t) (push_all (results_of t) st) (check_row m (under_label (results_of t) c) (hidden-the_row-Instr-0 list) nothing))
    (λ next. cond (is_nil (results_of t)) (Fine next) (Fault (1 + n)))) (size_list list)
    ∙ ap (λ v. and_then (closed_by 1 (list_size list) (results_of t) (push_all (results_of t) st) v)
    (λ next. cond (is_nil (results_of t)) (Fine next) (Fault (1 + list_size list)))) (checks_list m (under_label (results_of t) c) list nothing))

-- An `if` with two branches.
pub check_branches_list : (m : Module) (c : Context) (t : BlockType) (list other : List Instr) (s : Stack) →
    check m c (If t list (Some other)) s ≡ and_then (first_at_fault (pop I32 s)) (branches_verdict m c t list other)
check_branches_list m c t list other s = and_same (first_at_fault (pop I32 s)) _ _ (λ st.
    let around : Context = under_label (results_of t) c in
    let inner : Verdict = check_row m around (hidden-the_row-Instr-0 list) nothing in
    let outer : Verdict = check_row m around (hidden-the_row-Instr-0 other) nothing in
    let whole : ℕ → Verdict → ℕ → Verdict → Verdict = λ n v k w. and_then (closed_by 1 n (results_of t) (push_all (results_of t) st) v) (λ next. closed_by (2 + n) k (results_of t) next w) in
    ap (λ n. whole n inner (row_size (hidden-the_row-Instr-0 other)) outer) (size_list list)
    ∙ ap (λ v. whole (list_size list) v (row_size (hidden-the_row-Instr-0 other)) outer) (checks_list m around list nothing)
    ∙ ap (λ k. whole (list_size list) (check_list m around list nothing) k outer) (size_list other)
    ∙ ap (λ w. whole (list_size list) (check_list m around list nothing) (list_size other) w) (checks_list m around other nothing))

-- What was told of the list is told of the instruction.
pub moved : (P : Verdict → ℕ → Type 0) (v w : Verdict) (n k : ℕ) → v ≡ w → n ≡ k → P v n → P w k
moved P v w n k ev en h = subst (λ v. P v k) ev (subst (λ n. P v n) en h)

module _ (m : Module) (c : Context) (t : BlockType) (slice body : List Instr) (stack : Stack) (i : Instr) where
  pub block_is : (label : List ValType) → label ≡ results_of t → slice ≡ body → i ≡ Block t body → block_verdict m c label t slice stack ≡ check m c i stack
  block_is label el es ei = ap (λ l. block_verdict m c l t slice stack) el ∙ ap (λ b. block_verdict m c (results_of t) t b stack) es
      ∙ sym (check_block_list m c t body stack) ∙ ap (λ i. check m c i stack) (sym ei)

  pub loop_is : (label : List ValType) → label ≡ [] → slice ≡ body → i ≡ Loop t body → block_verdict m c label t slice stack ≡ check m c i stack
  loop_is label el es ei = ap (λ l. block_verdict m c l t slice stack) el ∙ ap (λ b. block_verdict m c [] t b stack) es
      ∙ sym (check_loop_list m c t body stack) ∙ ap (λ i. check m c i stack) (sym ei)

  pub alone_is : (rest : Stack) → pop I32 stack ≡ Some rest → slice ≡ body → i ≡ If t body None → alone_verdict m c t slice rest ≡ check m c i stack
  alone_is rest ep es ei = ap (λ b. alone_verdict m c t b rest) es ∙ ap (λ o. and_then (first_at_fault o) (alone_verdict m c t body)) (sym ep)
      ∙ sym (check_alone_list m c t body stack) ∙ ap (λ i. check m c i stack) (sym ei)

  pub branches_is : (other code : List Instr) (rest : Stack) → pop I32 stack ≡ Some rest → slice ≡ body → other ≡ code → i ≡ If t body (Some code) →
      branches_verdict m c t slice other rest ≡ check m c i stack
  branches_is other code rest ep es eo ei = ap (λ b. branches_verdict m c t b other rest) es ∙ ap (λ b. branches_verdict m c t body b rest) eo
      ∙ ap (λ o. and_then (first_at_fault o) (branches_verdict m c t body code)) (sym ep)
      ∙ sym (check_branches_list m c t body code stack) ∙ ap (λ i. check m c i stack) (sym ei)

  pub block_size_is : slice ≡ body → i ≡ Block t body → 2 + list_size slice ≡ size i
  block_size_is es ei = ap (λ b. 2 + list_size b) es ∙ sym (size_block t body) ∙ ap size (sym ei)

  pub loop_size_is : slice ≡ body → i ≡ Loop t body → 2 + list_size slice ≡ size i
  loop_size_is es ei = ap (λ b. 2 + list_size b) es ∙ sym (size_loop t body) ∙ ap size (sym ei)

  pub alone_size_is : slice ≡ body → i ≡ If t body None → 2 + list_size slice ≡ size i
  alone_size_is es ei = ap (λ b. 2 + list_size b) es ∙ sym (size_if_alone t body) ∙ ap size (sym ei)

  pub branches_size_is : (other code : List Instr) → slice ≡ body → other ≡ code → i ≡ If t body (Some code) → 2 + (list_size slice + (1 + list_size other)) ≡ size i
  branches_size_is other code es eo ei = ap (λ b. 2 + (list_size b + (1 + list_size other))) es ∙ ap (λ b. 2 + (list_size body + (1 + list_size b))) eo
      ∙ sym (size_if_else t body code) ∙ ap size (sym ei)

  pub no_condition : (o : Option (List Instr)) → pop I32 stack ≡ None → i ≡ If t body o → check m c i stack ≡ Fault 0
  no_condition None ep ei = ap (λ i. check m c i stack) ei ∙ check_alone_list m c t body stack ∙ ap (λ o. and_then (first_at_fault o) (alone_verdict m c t body)) ep
  no_condition (Some code) ep ei = ap (λ i. check m c i stack) ei ∙ check_branches_list m c t body code stack ∙ ap (λ o. and_then (first_at_fault o) (branches_verdict m c t body code)) ep

-- A block that ends well, and one that doesn't.
module _ (at size : ℕ) (results : List ValType) (next : Stack) (from to : ℕ) where
  ends_well : (e : Bool) → AgreesBlock (cond e (Fine nothing) (Fault (0 + size))) from to size true → (cond e (Fine next) (Fault (at + size)) ≡ Fine next) × (to ≡ from + size)
  ends_well true h = (refl, h)
  ends_well false h = absurd h

  pub closed_well : (v : Verdict) → AgreesBlock (closed_by 0 size results nothing v) from to size true → (closed_by at size results next v ≡ Fine next) × (to ≡ from + size)
  closed_well (Fault k) h = absurd h
  closed_well (Fine b) h = ends_well (ends results b) h

  ends_ill : (e : Bool) → AgreesBlock (cond e (Fine nothing) (Fault (0 + size))) from to size false →
      (k : ℕ) × (cond e (Fine next) (Fault (at + size)) ≡ Fault (at + k)) × (to ≡ from + k)
  ends_ill true h = absurd h
  ends_ill false h = (size, refl, omega (arith, h))

  pub closed_ill : (v : Verdict) → AgreesBlock (closed_by 0 size results nothing v) from to size false →
      (k : ℕ) × (closed_by at size results next v ≡ Fault (at + k)) × (to ≡ from + k)
  closed_ill (Fault k) h = (k, refl, omega (arith, h))
  closed_ill (Fine b) h = ends_ill (ends results b) h

-- What a block tells.
module _ (m : Module) (c : Context) (t : BlockType) (body : List Instr) (stack : Stack) (label given : List ValType) (from mid to : ℕ) where
  pub with_results : given ≡ results_of t → (ok : Bool) → AgreesBlock (closed_by 0 (list_size body) given nothing (check_list m (under_label label c) body nothing)) (from + 1) mid (list_size body) ok →
      AgreesBlock (closed_by 0 (list_size body) (results_of t) nothing (check_list m (under_label label c) body nothing)) (from + 1) mid (list_size body) ok
  with_results e ok h = subst (λ given. AgreesBlock (closed_by 0 (list_size body) given nothing (check_list m (under_label label c) body nothing)) (from + 1) mid (list_size body) ok) e h

  pub block_well : given ≡ results_of t → (pushed : Stack) → pushed ≡ push_all (results_of t) stack → to ≡ mid + 1 →
      AgreesBlock (closed_by 0 (list_size body) given nothing (check_list m (under_label label c) body nothing)) (from + 1) mid (list_size body) true →
      Agrees (block_verdict m c label t body stack) from to (2 + list_size body) (Some pushed)
  block_well e pushed ep et h =
      let w = closed_well 1 (list_size body) (results_of t) (push_all (results_of t) stack) (from + 1) mid (check_list m (under_label label c) body nothing) (with_results e true h) in
      subst (λ v. Agrees v from to (2 + list_size body) (Some pushed)) (sym w.0) (ep, omega (arith, w.1, et))

  pub block_ill : given ≡ results_of t →
      AgreesBlock (closed_by 0 (list_size body) given nothing (check_list m (under_label label c) body nothing)) (from + 1) mid (list_size body) false →
      Agrees (block_verdict m c label t body stack) from mid (2 + list_size body) None
  block_ill e h =
      let w = closed_ill 1 (list_size body) (results_of t) (push_all (results_of t) stack) (from + 1) mid (check_list m (under_label label c) body nothing) (with_results e false h) in
      subst (λ v. Agrees v from mid (2 + list_size body) None) (sym w.1) (omega (arith, w.2))

  -- Of an `if` without `else`.
  fine_alone : (n : ℕ) (next : Stack) (r : List ValType) (v : Verdict) → v ≡ Fine next → r ≡ [] → and_then v (λ next. cond (is_nil r) (Fine next) (Fault n)) ≡ Fine next
  fine_alone n next r v ev er = ap (λ v. and_then v (λ next. cond (is_nil r) (Fine next) (Fault n))) ev ∙ ap (λ r. cond (is_nil r) (Fine next) (Fault n)) er

  ill_alone : (n : ℕ) (next : Stack) (r : List ValType) (v : Verdict) → v ≡ Fine next → (r ≡ [] → ⊥) → and_then v (λ next. cond (is_nil r) (Fine next) (Fault n)) ≡ Fault n
  ill_alone n next [] v ev er = absurd (er refl)
  ill_alone n next (x ∷ r) v ev er = ap (λ v. and_then v (λ next. Fault n)) ev

  pub alone_well : label ≡ results_of t → given ≡ results_of t → given ≡ [] → to ≡ mid + 1 →
      AgreesBlock (closed_by 0 (list_size body) given nothing (check_list m (under_label label c) body nothing)) (from + 1) mid (list_size body) true →
      Agrees (alone_verdict m c t body stack) from to (2 + list_size body) (Some stack)
  alone_well el e en et h =
      let w = closed_well 1 (list_size body) (results_of t) (push_all (results_of t) stack) (from + 1) mid (check_list m (under_label label c) body nothing) (with_results e true h) in
      let same : block_verdict m c (results_of t) t body stack ≡ Fine (push_all (results_of t) stack) = ap (λ l. block_verdict m c l t body stack) (sym el) ∙ w.0 in
      let none : results_of t ≡ [] = sym e ∙ en in
      subst (λ v. Agrees v from to (2 + list_size body) (Some stack)) (sym (fine_alone (1 + list_size body) (push_all (results_of t) stack) (results_of t) _ same none))
      (ap (λ r. push_all r stack) (sym none), omega (arith, w.1, et))

  pub alone_left : label ≡ results_of t → given ≡ results_of t → (given ≡ [] → ⊥) →
      AgreesBlock (closed_by 0 (list_size body) given nothing (check_list m (under_label label c) body nothing)) (from + 1) mid (list_size body) true →
      Agrees (alone_verdict m c t body stack) from mid (2 + list_size body) None
  alone_left el e en h =
      let w = closed_well 1 (list_size body) (results_of t) (push_all (results_of t) stack) (from + 1) mid (check_list m (under_label label c) body nothing) (with_results e true h) in
      let same : block_verdict m c (results_of t) t body stack ≡ Fine (push_all (results_of t) stack) = ap (λ l. block_verdict m c l t body stack) (sym el) ∙ w.0 in
      subst (λ v. Agrees v from mid (2 + list_size body) None) (sym (ill_alone (1 + list_size body) (push_all (results_of t) stack) (results_of t) _ same (λ none. en (e ∙ none))))
      (omega (arith, w.1))

  pub alone_ill : label ≡ results_of t → given ≡ results_of t →
      AgreesBlock (closed_by 0 (list_size body) given nothing (check_list m (under_label label c) body nothing)) (from + 1) mid (list_size body) false →
      Agrees (alone_verdict m c t body stack) from mid (2 + list_size body) None
  alone_ill el e h =
      let w = closed_ill 1 (list_size body) (results_of t) (push_all (results_of t) stack) (from + 1) mid (check_list m (under_label label c) body nothing) (with_results e false h) in
      let same : block_verdict m c (results_of t) t body stack ≡ Fault (1 + w.0) = ap (λ l. block_verdict m c l t body stack) (sym el) ∙ w.1 in
      subst (λ v. Agrees (and_then v (λ next. cond (is_nil (results_of t)) (Fine next) (Fault (1 + list_size body)))) from mid (2 + list_size body) None) (sym same) (omega (arith, w.2))

  -- Of an `if` with two branches, the first of which ends well.
  module _ (other : List Instr) where
    pub branches_ill : label ≡ results_of t → given ≡ results_of t →
        AgreesBlock (closed_by 0 (list_size body) given nothing (check_list m (under_label label c) body nothing)) (from + 1) mid (list_size body) false →
        Agrees (branches_verdict m c t body other stack) from mid (2 + (list_size body + (1 + list_size other))) None
    branches_ill el e h =
        let w = closed_ill 1 (list_size body) (results_of t) (push_all (results_of t) stack) (from + 1) mid (check_list m (under_label label c) body nothing) (with_results e false h) in
        let same : block_verdict m c (results_of t) t body stack ≡ Fault (1 + w.0) = ap (λ l. block_verdict m c l t body stack) (sym el) ∙ w.1 in
        subst (λ v. Agrees (and_then v (λ next. closed_by (2 + list_size body) (list_size other) (results_of t) next (check_list m (under_label (results_of t) c) other nothing))) from mid
        (2 + (list_size body + (1 + list_size other))) None) (sym same) (omega (arith, w.2))
