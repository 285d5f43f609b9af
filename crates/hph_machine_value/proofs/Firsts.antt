-- The parts of a first state, made one by one.
use Rattle.std.proofs.Common.{◌≡◌, ℕ, zero, suc, ◌+◌, ◌<◌, ◌≤◌, ◌/◌, List, [], ◌∷◌, ◌++◌, length, get_or, set, sym, refl, ap, subst, ◌∙◌, ⊎_elim, arith, length-set}
use Rattle.std.specs.Int.RustNames.{bit_or}
use Rattle.hph_core.specs.declared.view.View.{View}
use Rattle.hph_core.specs.State.{fresh, member_of}
use Rattle.hph_core.specs.Effects.{word_with, mask}
use Rattle.hph_core.specs.Events.{seats_from}
use Rattle.hph_core.proofs.Bits.{bit_sets}
use Rattle.hph_core.proofs.Keeps.{look}

any_default : {A : Type 0} → (xs : List A) (i : ℕ) (a b : A) → i < length xs → get_or xs i a ≡ get_or xs i b
any_default [] i a b h = absurd (omega arith)
any_default (x ∷ xs) zero a b h = refl
any_default (x ∷ xs) (suc i) a b h = any_default xs i a b (omega arith)

-- the words of a set of some scopes that has those below a number
pub record HasBelow (scopes s : ℕ) (work : List ℕ) : Type 0 where
  pub len : length work ≡ (scopes + 63) / 64
  pub has : (j : ℕ) → j < s → member_of work j ≡ 1
  pub has_not : (j : ℕ) → s ≤ j → member_of work j ≡ 0

pub has_more : (scopes s : ℕ) (work : List ℕ) (x : ℕ) → s < scopes → HasBelow scopes s work → x ≡ get_or work (s / 64) x → HasBelow scopes (s + 1) (set work (s / 64) (bit_or x (mask s)))
has_more scopes s work x h was e =
    let inside : s / 64 < length work = (let l = was.len in omega arith) in
    let x_is : x ≡ get_or work (s / 64) 0 = e ∙ any_default work (s / 64) x 0 inside in
    let c = bit_sets work s inside in
    let work' : List ℕ = set work (s / 64) (word_with (get_or work (s / 64) 0) s) in
    let now : HasBelow scopes (s + 1) work' = record {
      len = length-set work (s / 64) (word_with (get_or work (s / 64) 0) s) ∙ was.len;
      has = λ j l. ⊎_elim (λ y. y.1) (λ n. n.1 ∙ was.has j (let q = n.0 in omega arith)) (look (member_of work) (member_of work') s 1 c j);
      has_not = λ j l. ⊎_elim (λ y. absurd (let q = y.0 in omega arith)) (λ n. n.1 ∙ was.has_not j (omega arith)) (look (member_of work) (member_of work') s 1 c j);
    } in
    subst (λ (n : ℕ). HasBelow scopes (s + 1) (set work (s / 64) (bit_or n (mask s)))) (sym x_is) now

-- one seat more at the end
pub one_more : (n k : ℕ) → seats_from n k ++ fresh (n + k) ∷ [] ≡ seats_from (suc n) k
one_more zero k = ap (λ (j : ℕ). fresh j ∷ []) (let z : 0 + k ≡ k = omega arith in z)
one_more (suc n) k = ap (λ (vs : List View). fresh k ∷ vs) (ap (λ (j : ℕ). seats_from n (suc k) ++ fresh j ∷ []) (let z : suc n + k ≡ n + suc k = omega arith in z) ∙ one_more n (suc k))

pub next_seat : (n : ℕ) (vs ws : List View) (v : View) → vs ≡ seats_from n 0 → v ≡ fresh n → ws ≡ vs ++ v ∷ [] → ws ≡ seats_from (n + 1) 0
next_seat n vs ws v are is pushed =
    pushed ∙ (ap (λ (us : List View). us ++ v ∷ []) are ∙ (ap (λ (u : View). seats_from n 0 ++ u ∷ []) is
    ∙ (ap (λ (j : ℕ). seats_from n 0 ++ fresh j ∷ []) (let z : n ≡ n + 0 = omega arith in z) ∙ (one_more n 0 ∙ ap (λ (j : ℕ). seats_from j 0) (let z : suc n ≡ n + 1 = omega arith in z)))))
