-- Where each word of the table stands, and what a store there makes of the state.
use Rattle.std.proofs.Common.{◌≡◌, ◌≢◌, ℕ, zero, suc, ◌+◌, ◌-◌, ◌<◌, ◌≤◌, Bool, true, false, List, [], ◌∷◌, ◌++◌, map, length, get_or, set, sym, refl, ap, subst, ◌∙◌, inl, inr, ◌⊎◌, ⊎_elim, arith, length-set, length-append}
use Rattle.std.proofs.lemmas.List.{set-append_left, set-append_right, get_or_append_left, get_or-append-add, map-set}
use mathlib.Core.Logic.{dite}
use mathlib.Core.Option.{none, some, some-injective, some-ne-none}
use native.Mathlib.Decide.{ℕ_discrete, dec_lt}
use lib.ListN.{get_elem?}
use Rattle.hph_type.specs.Types.{PhpType}
use Rattle.hph_type.specs.Codes.{code}
use Rattle.hph_type.specs.Types.{none as empty}
use Rattle.hph_sys.specs.Shape.{Shape}
use Rattle.hph_sys.specs.Typings.{In, at}
use Rattle.hph_core.specs.declared.view.View.{View}
use Rattle.hph_core.specs.State.{WorkerState, entry, spent}
use Rattle.hph_core.specs.Effects.{held_as, celled, owing}
use Rattle.hph_core.proofs.Lists.{Changed}
use Rattle.hph_core.proofs.Lists.{changed_set}
use Rattle.hph_core.proofs.Keeps.{each}
use Rattle.hph_table.specs.Words.{words_of, seat_at, Extras}

module _ {A : Type 0} where
  pub at_get : (xs : List A) (i : ℕ) (x d : A) → get_elem? xs i ≡ some x → (i < length xs) × (get_or xs i d ≡ x)
  at_get [] i x d e = absurd (some-ne-none x (sym e))
  at_get (y ∷ ys) zero x d e = (omega arith, some-injective y x e)
  at_get (y ∷ ys) (suc i) x d e = let r = at_get ys i x d e in (omega arith, r.1)

  pub set_get : (xs : List A) (i : ℕ) (d : A) → set xs i (get_or xs i d) ≡ xs
  set_get [] i d = refl
  set_get (y ∷ ys) zero d = refl
  set_get (y ∷ ys) (suc i) d = λ k. y ∷ set_get ys i d k

  pub set_add : (xs ys : List A) (i n : ℕ) (y : A) → i ≡ length xs + n → set (xs ++ ys) i y ≡ xs ++ set ys n y
  set_add xs ys i n y e = set-append_right xs ys (length xs) i y refl (omega arith) ∙ ap (λ (k : ℕ). xs ++ set ys k y) (let z : i - length xs ≡ n = omega arith in z)

  pub get_add : (xs ys : List A) (i n : ℕ) (d : A) → i ≡ length xs + n → get_or (xs ++ ys) i d ≡ get_or ys n d
  get_add xs ys i n d e = ap (λ (k : ℕ). get_or (xs ++ ys) k d) e ∙ get_or-append-add xs ys n d

get_codes : (ts : List PhpType) (c : ℕ) → c < length ts → get_or (map code ts) c 0 ≡ code (get_or ts c empty)
get_codes [] c h = absurd (omega arith)
get_codes (t ∷ ts) zero h = refl
get_codes (t ∷ ts) (suc c) h = get_codes ts c (omega arith)

length_map : (ts : List PhpType) → length (map code ts) ≡ length ts
length_map [] = refl
length_map (t ∷ ts) = ap suc (length_map ts)

module _ (st : WorkerState) where
  abbrev rest3 : List ℕ
  rest3 = st.pending ∷ []

  abbrev rest2 : List ℕ
  rest2 = map code st.cells ++ rest3

  abbrev rest1 : List ℕ
  rest1 = st.holders ++ rest2

  pub at_work : (j : ℕ) → j < length st.work → get_or (words_of st) j 0 ≡ get_or st.work j 0
  at_work j h = get_or_append_left st.work rest1 0 j h

  pub set_work : (j n : ℕ) → j < length st.work → set (words_of st) j n ≡ set st.work j n ++ rest1
  set_work j n h = set-append_left st.work rest1 j n h

  pub at_holder : (i d : ℕ) → i ≡ length st.work + d → d < length st.holders → get_or (words_of st) i 0 ≡ get_or st.holders d 0
  at_holder i d e h = get_add st.work rest1 i d 0 e ∙ get_or_append_left st.holders rest2 0 d h

  pub set_holder : (i d n : ℕ) → i ≡ length st.work + d → d < length st.holders → set (words_of st) i n ≡ words_of (held_as st d n)
  set_holder i d n e h = set_add st.work rest1 i d n e ∙ ap (λ (r : List ℕ). st.work ++ r) (set-append_left st.holders rest2 d n h)

  pub at_cell : (i c : ℕ) → i ≡ length st.work + (length st.holders + c) → c < length st.cells → get_or (words_of st) i 0 ≡ code (at st.cells c)
  at_cell i c e h = get_add st.work rest1 i (length st.holders + c) 0 e ∙ (get_add st.holders rest2 (length st.holders + c) c 0 refl
      ∙ (get_or_append_left (map code st.cells) rest3 0 c (let l = length_map st.cells in omega arith) ∙ get_codes st.cells c h))

  pub set_cell : (i c : ℕ) (t : PhpType) → i ≡ length st.work + (length st.holders + c) → c < length st.cells → set (words_of st) i (code t) ≡ words_of (celled st c t)
  set_cell i c t e h = set_add st.work rest1 i (length st.holders + c) (code t) e ∙ ap (λ (r : List ℕ). st.work ++ r) (set_add st.holders rest2 (length st.holders + c) c (code t) refl
      ∙ ap (λ (r : List ℕ). st.holders ++ r) (set-append_left (map code st.cells) rest3 c (code t) (let l = length_map st.cells in omega arith) ∙ ap (λ (cs : List ℕ). cs ++ rest3) (sym (map-set code st.cells c t))))

  pub at_pending : (i : ℕ) → i ≡ length st.work + (length st.holders + length st.cells) → get_or (words_of st) i 0 ≡ st.pending
  at_pending i e = get_add st.work rest1 i (length st.holders + length st.cells) 0 e ∙ (get_add st.holders rest2 (length st.holders + length st.cells) (length st.cells) 0 refl
      ∙ get_add (map code st.cells) rest3 (length st.cells) 0 0 (let l = length_map st.cells in omega arith))

  pub set_pending : (i n : ℕ) → i ≡ length st.work + (length st.holders + length st.cells) → set (words_of st) i n ≡ words_of (owing st n)
  set_pending i n e = set_add st.work rest1 i (length st.holders + length st.cells) n e ∙ ap (λ (r : List ℕ). st.work ++ r) (set_add st.holders rest2 (length st.holders + length st.cells) (length st.cells) n refl
      ∙ ap (λ (r : List ℕ). st.holders ++ r) (set_add (map code st.cells) rest3 (length st.cells) 0 n (let l = length_map st.cells in omega arith)))

pub extras_set : (workers : ℕ) (vs : List View) (id : ℕ) (v : View) → id < length vs → Extras workers vs → v.live ≡ (seat_at vs id).live → v.top ≡ (seat_at vs id).top → v.joined ≡ (seat_at vs id).joined → Extras workers (set vs id v)
extras_set workers vs id v h x live top joined =
    let moved : Changed (seat_at vs) (seat_at (set vs id v)) id v = changed_set vs id v spent h in
    let lives : (j : ℕ) → (seat_at (set vs id v) j).live ≡ (seat_at vs j).live = each (λ (j : ℕ) (y : View). y.live ≡ (seat_at vs j).live) (seat_at vs) (seat_at (set vs id v)) id v moved live (λ j n. refl) in
    let tops : (j : ℕ) → (seat_at (set vs id v) j).top ≡ (seat_at vs j).top = each (λ (j : ℕ) (y : View). y.top ≡ (seat_at vs j).top) (seat_at vs) (seat_at (set vs id v)) id v moved top (λ j n. refl) in
    let joins : (j : ℕ) → (seat_at (set vs id v) j).joined ≡ (seat_at vs j).joined = each (λ (j : ℕ) (y : View). y.joined ≡ (seat_at vs j).joined) (seat_at vs) (seat_at (set vs id v)) id v moved joined (λ j n. refl) in
    record {
      count = let l = length-set vs id v in let c = x.count in omega arith;
      top = λ l. let a = x.top (sym (lives 0) ∙ l) in let b = tops 0 in let c = length-set vs id v in omega arith;
      joined = λ u j i. let o = x.joined u j (subst (In j) (joins u) i) in ((let l = length-set vs id v in let q = o.0 in omega arith), lives j ∙ o.1);
    }
