-- Checking a list of instructions from the front.
use Rattle.std.proofs.Common.{◌≡◌, ◌≤◌, ◌∙◌, ℕ, zero, suc, ◌+◌, List, [], ◌∷◌, Some, None, length, take, drop, refl, sym, ap, subst, arith, zero-add, add_assoc}
use Rattle.std.specs.Prelude.{slice_get}
use Rattle.hph_wasm.specs.declared.instr.Instr.{Instr}
use Rattle.hph_wasm.specs.declared.module.Module.{Module}
use Rattle.hph_wasm.specs.Rows.{size, list_size}
use Rattle.hph_wasm.specs.Validity.{Context}
use Rattle.hph_wvalid.specs.Stacks.{Stack}
use Rattle.hph_wvalid.specs.Checking.{Verdict, Fine, Fault, and_then, later, check, check_list, Agrees}

-- The list from an instruction on, and the opcodes up to it and with it.
from_here : (list : List Instr) (i : ℕ) (x : Instr) → slice_get list i ≡ Some x → drop i list ≡ x ∷ drop (suc i) list
from_here [] i x e = let no : ⊥ = cc in absurd no
from_here (y ∷ list) zero x e = let same : y ≡ x = cc in ap (λ y. y ∷ list) same
from_here (y ∷ list) (suc i) x e = from_here list i x e

up_to : (list : List Instr) (i : ℕ) (x : Instr) → slice_get list i ≡ Some x → list_size (take (suc i) list) ≡ list_size (take i list) + size x
up_to [] i x e = let no : ⊥ = cc in absurd no
up_to (y ∷ list) zero x e = let same : y ≡ x = cc in let sizes = ap size same in omega (arith, sizes)
up_to (y ∷ list) (suc i) x e = let others = up_to list i x e in omega (arith, others)

front_size : (list : List Instr) (i : ℕ) → list_size (take i list) ≤ list_size list
front_size list zero = omega arith
front_size [] (suc i) = omega arith
front_size (y ∷ list) (suc i) = let others = front_size list i in omega (arith, others)

-- The opcodes up to an instruction and its own are no more than all.
pub part_size : (list : List Instr) (i : ℕ) (x : Instr) → slice_get list i ≡ Some x → list_size (take i list) + size x ≤ list_size list
part_size list i x e = let with_it = up_to list i x e in let all = front_size list (suc i) in omega (arith, with_it, all)

later_zero : (v : Verdict) → v ≡ later 0 v
later_zero (Fine s) = refl
later_zero (Fault k) = ap Fault (sym (zero-add k))

later_later : (n k : ℕ) (v : Verdict) → later n (later k v) ≡ later (n + k) v
later_later n k (Fine s) = refl
later_later n k (Fault j) = ap Fault (sym (add_assoc n k j))

-- The verdict on the list from a stack is that on what is behind the first i instructions, from the stack there.
abbrev pub IsBehind : Module → Context → List Instr → Stack → ℕ → Stack → Type 0
IsBehind m c list first i st = check_list m c list first ≡ later (list_size (take i list)) (check_list m c (drop i list) st)

module _ (m : Module) (c : Context) (list : List Instr) (first : Stack) where
  pub at_front : IsBehind m c list first 0 first
  at_front = later_zero (check_list m c list first)

  one_on : (i : ℕ) (x : Instr) (st : Stack) → slice_get list i ≡ Some x → IsBehind m c list first i st →
      check_list m c list first ≡ later (list_size (take i list)) (and_then (check m c x st) (λ st. later (size x) (check_list m c (drop (suc i) list) st)))
  one_on i x st there behind = behind ∙ ap (λ l. later (list_size (take i list)) (check_list m c l st)) (from_here list i x there)

  stepped : (i : ℕ) (x : Instr) (st next : Stack) → slice_get list i ≡ Some x → IsBehind m c list first i st → check m c x st ≡ Fine next →
      IsBehind m c list first (suc i) next
  stepped i x st next there behind e = one_on i x st there behind
      ∙ ap (λ v. later (list_size (take i list)) (and_then v (λ st. later (size x) (check_list m c (drop (suc i) list) st)))) e
      ∙ later_later (list_size (take i list)) (size x) (check_list m c (drop (suc i) list) next)
      ∙ ap (λ n. later n (check_list m c (drop (suc i) list) next)) (sym (up_to list i x there))

  agreed : (v : Verdict) (from at to n : ℕ) (next : Stack) → Agrees v at to n (Some next) → (v ≡ Fine next) × (to ≡ at + n)
  agreed (Fine s) from at to n next h = (ap Fine (sym h.0), h.1)
  agreed (Fault k) from at to n next h = absurd h

  -- Behind one more instruction.
  pub next_behind : (i from at to : ℕ) (x : Instr) (st next : Stack) → slice_get list i ≡ Some x → IsBehind m c list first i st →
      at ≡ from + list_size (take i list) → Agrees (check m c x st) at to (size x) (Some next) →
      IsBehind m c list first (suc i) next × (to ≡ from + list_size (take (suc i) list))
  next_behind i from at to x st next there behind counted told =
      let told_fine = agreed (check m c x st) from at to (size x) next told in
      let opcodes = up_to list i x there in
      (stepped i x st next there behind told_fine.0, omega (arith, counted, told_fine.1, opcodes))

  failed : (v : Verdict) (go : Stack → Verdict) (whole : Verdict) (i from at to n : ℕ) → whole ≡ later i (and_then v go) → at ≡ from + i →
      Agrees v at to n None → (k : ℕ) × (whole ≡ Fault k) × (to ≡ from + k)
  failed (Fine s) go whole i from at to n e counted told = absurd told
  failed (Fault k) go whole i from at to n e counted told = (i + k, e, omega (arith, counted, told))

  -- At a fault of an instruction.
  pub fault_behind : (i from at to : ℕ) (x : Instr) (st : Stack) → slice_get list i ≡ Some x → IsBehind m c list first i st →
      at ≡ from + list_size (take i list) → Agrees (check m c x st) at to (size x) None → Agrees (check_list m c list first) from to (list_size list) None
  fault_behind i from at to x st there behind counted told =
      let found = failed (check m c x st) (λ st. later (size x) (check_list m c (drop (suc i) list) st)) (check_list m c list first) (list_size (take i list)) from at to (size x)
      (one_on i x st there behind) counted told in
      subst (λ v. Agrees v from to (list_size list) None) (sym found.1) found.2

  whole_front : (l : List Instr) → (take (length l) l ≡ l) × (drop (length l) l ≡ [])
  whole_front [] = (refl, refl)
  whole_front (x ∷ l) = let rest = whole_front l in (ap (λ l. x ∷ l) rest.0, rest.1)

  -- Behind all of them.
  pub all_behind : (i from at : ℕ) (st : Stack) → i ≡ length list → IsBehind m c list first i st → at ≡ from + list_size (take i list) →
      Agrees (check_list m c list first) from at (list_size list) (Some st)
  all_behind i from at st e behind counted =
      let front = ap (λ i. take i list) e ∙ (whole_front list).0 in
      let rest = ap (λ i. drop i list) e ∙ (whole_front list).1 in
      let told : check_list m c list first ≡ Fine st = behind ∙ ap (λ l. later (list_size (take i list)) (check_list m c l st)) rest in
      let sizes = ap list_size front in
      subst (λ v. Agrees v from at (list_size list) (Some st)) (sym told) (refl, (omega (arith, counted, sizes)))
