-- Opcodes are counted list by list.
use Rattle.std.proofs.Common.{◌≡◌, ◌∙◌, ◌≤◌, ◌<◌, ◌+◌, ℕ, suc, List, [], ◌∷◌, Option, Result, Ok, Err, length, sym, ap, refl, subst, arith}
use Rattle.std.specs.Borrow.{Bor}
use Rattle.std.specs.Prelude.{IfOk}
use Rattle.std.proofs.lemmas.List.Sums.{sum_by-cons}
use Rattle.hph_wasm.specs.declared.instr.Instr.{Instr}
use Rattle.hph_wasm.specs.declared.instr.Instr.TheViews as view
use Rattle.hph_wasm.specs.declared.types.BlockType.{BlockType}
use Rattle.hph_wasm.specs.Blocks.{else_list_size}
use Rattle.hph_wasm.specs.Rows.{size, list_size}
use Rattle.hph_wasm.proofs.Rows.{size-block, size-loop, size-if}
use Rattle.hph_wrun.specs.Counting.{left_of, Counted}

-- A list is left beside the others.
one_waits : (n k : ℕ) (list : Bor (List Instr)) (before after : List (Bor (List Instr))) → 1 ≤ n → k ≡ n + list_size list.now → after ≡ list ∷ before →
    Counted k n before after
one_waits n k list before after h e p =
    let more : left_of after ≡ list_size list.now + left_of before =
    ap left_of p ∙ sum_by-cons (λ (list : Bor (List Instr)). list_size list.now) list before in
    let long : length after ≡ suc (length before) = ap length p in
    (omega arith, omega arith)

pub block_waits : (body : List Instr) (list : Bor (List Instr)) (before after : List (Bor (List Instr))) → list.now ≡ body → after ≡ list ∷ before →
    Counted (2 + list_size body) 2 before after
block_waits body list before after e p = one_waits 2 (2 + list_size body) list before after (omega arith) (ap (λ l. 2 + list_size l) (sym e)) p

pub else_waits : (body : List Instr) (list : Bor (List Instr)) (before after : List (Bor (List Instr))) → list.now ≡ body → after ≡ list ∷ before →
    Counted (1 + list_size body) 1 before after
else_waits body list before after e p = one_waits 1 (1 + list_size body) list before after (omega arith) (ap (λ l. 1 + list_size l) (sym e)) p

-- Nothing is left to be counted.
pub nothing_waits : (n : ℕ) (before : List (Bor (List Instr))) → Counted n n before before
nothing_waits n before = (refl, omega arith)

pub both : (a b m n : ℕ) (before middle after : List (Bor (List Instr))) (k : ℕ) → Counted a m before middle → Counted b n middle after → k ≡ m + n →
    Counted (a + b) k before after
both a b m n before middle after k (first, few) (second, fewer) e = (omega arith, omega arith)

block_same : (ty : BlockType) (body : List Instr) (k : ℕ) (before after : List (Bor (List Instr))) → Counted (2 + list_size body) k before after →
    Counted (size (view.Block ty body)) k before after
block_same ty body k before after h = subst (λ n. Counted n k before after) (sym (size-block ty body)) h

loop_same : (ty : BlockType) (body : List Instr) (k : ℕ) (before after : List (Bor (List Instr))) → Counted (2 + list_size body) k before after →
    Counted (size (view.Loop ty body)) k before after
loop_same ty body k before after h = subst (λ n. Counted n k before after) (sym (size-loop ty body)) h

if_same : (ty : BlockType) (body : List Instr) (other : Option (List Instr)) (k : ℕ) (before after : List (Bor (List Instr))) →
    Counted (2 + (list_size body + else_list_size other)) k before after → Counted (size (view.If ty body other)) k before after
if_same ty body other k before after h = subst (λ n. Counted n k before after) (sym (size-if ty body other)) h

module _ {E : Type 0} (i : Instr) (before after : List (Bor (List Instr))) (r : Result ℕ E) where
  pub block_counted : (ty : BlockType) (body : List Instr) → i ≡ view.Block ty body →
      IfOk r (λ k. Counted (2 + list_size body) k before after) → IfOk r (λ k. Counted (size i) k before after)
  block_counted ty body e h = rw e (by r h)
    where
      by : (r : Result ℕ E) → IfOk r (λ k. Counted (2 + list_size body) k before after) → IfOk r (λ k. Counted (size (view.Block ty body)) k before after)
      by (Ok k) h = block_same ty body k before after h
      by (Err f) h = tt

  pub loop_counted : (ty : BlockType) (body : List Instr) → i ≡ view.Loop ty body →
      IfOk r (λ k. Counted (2 + list_size body) k before after) → IfOk r (λ k. Counted (size i) k before after)
  loop_counted ty body e h = rw e (by r h)
    where
      by : (r : Result ℕ E) → IfOk r (λ k. Counted (2 + list_size body) k before after) → IfOk r (λ k. Counted (size (view.Loop ty body)) k before after)
      by (Ok k) h = loop_same ty body k before after h
      by (Err f) h = tt

  pub if_counted : (ty : BlockType) (body : List Instr) (other : Option (List Instr)) → i ≡ view.If ty body other →
      IfOk r (λ k. Counted (2 + (list_size body + else_list_size other)) k before after) → IfOk r (λ k. Counted (size i) k before after)
  if_counted ty body other e h = rw e (by r h)
    where
      by : (r : Result ℕ E) → IfOk r (λ k. Counted (2 + (list_size body + else_list_size other)) k before after) →
          IfOk r (λ k. Counted (size (view.If ty body other)) k before after)
      by (Ok k) h = if_same ty body other k before after h
      by (Err f) h = tt

-- An instruction more of a list.
pub one_more : (i : Instr) (rest list : List Instr) (count own new total : ℕ) (first before after : List (Bor (List Instr))) → list ≡ i ∷ rest →
    (count + (left_of before + list_size list) ≡ total + left_of first) × (length before ≤ length first + count) →
    Counted (size i) own before after → new ≡ count + own →
    (new + (left_of after + list_size rest) ≡ total + left_of first) × (length after ≤ length first + new)
one_more i rest list count own new total first before after e (so_far, few) (counted, fewer) p =
    let whole : list_size list ≡ size i + list_size rest = ap list_size e in
    (omega arith, omega arith)

pub list_done : (list : List Instr) (count total : ℕ) (first after : List (Bor (List Instr))) → list ≡ [] →
    (count + (left_of after + list_size list) ≡ total + left_of first) × (length after ≤ length first + count) → Counted total count first after
list_done list count total first after e (so_far, few) =
    let none : list_size list ≡ 0 = ap list_size e in (omega arith, few)

-- A list that waited is counted.
pub one_list_more : (list : Bor (List Instr)) (count own new total : ℕ) (before rest after : List (Bor (List Instr))) → before ≡ list ∷ rest →
    count + left_of before ≡ total → Counted (list_size list.now) own rest after → new ≡ count + own → new + left_of after ≡ total
one_list_more list count own new total before rest after e so_far (counted, few) p =
    let whole : left_of before ≡ list_size list.now + left_of rest =
    ap left_of e ∙ sum_by-cons (λ (list : Bor (List Instr)). list_size list.now) list rest in
    omega arith

pub fewer_wait : (list : Bor (List Instr)) (own : ℕ) (before rest after : List (Bor (List Instr))) → before ≡ list ∷ rest →
    Counted (list_size list.now) own rest after → left_of after + length after < left_of before + length before
fewer_wait list own before rest after e (counted, few) =
    let whole : left_of before ≡ list_size list.now + left_of rest =
    ap left_of e ∙ sum_by-cons (λ (list : Bor (List Instr)). list_size list.now) list rest in
    let long : length before ≡ suc (length rest) = ap length e in
    omega arith
