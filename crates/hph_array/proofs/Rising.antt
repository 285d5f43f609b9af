-- Keys that rise: they are distinct, and where each stands.
use Rattle.std.proofs.Common.{◌≡◌, ℕ, zero, suc, ◌+◌, ◌-◌, ◌<◌, ◌≤◌, Bool, true, false, cond, not, ◌||◌, List, [], ◌∷◌, ◌++◌}
use Rattle.std.proofs.Common.{length, slice_get, slice_index_or, remove, Option, None, Some, refl, ap, sym, arith, ◌∙◌, nat_lt, inl, inr}
use Rattle.std.specs.List.{position_or_len, position, list_any, IsDistinct, AllByRecursion, AllWithin}
use Rattle.std.specs.List.Sorted.{IsPartitionedBy}
use Rattle.std.specs.Option.{is_some, option_map_or}
use Rattle.std.specs.Set.{remove_key}
use Rattle.std.proofs.lemmas.Option.{none-some, slice_get-get_or}
use Rattle.std.proofs.lemmas.Bool.{ltb-true, ltb-false, lt-ltb, le-ltb, or_parts, cases_Bool}
use Rattle.hph_array.specs.declared.key.Key.{Key}
use Rattle.hph_array.specs.Key.{key_eq, key_eq_decides, number_after}
use Rattle.hph_array.specs.Keys.{RiseFrom}
use Rattle.hph_array.proofs.Places.{one_more, place_of}

-- Equal keys have one number behind them.
same_number : (k x : Key) → key_eq k x ≡ true → number_after k ≡ number_after x
same_number k x e = ap number_after ((key_eq_decides k x).0 e)

-- Keys with other numbers behind them aren't equal.
apart : (k x : Key) → (number_after k ≡ number_after x → ⊥) → key_eq k x ≡ false
apart k x other =
    elim (cases_Bool (key_eq k x)) [
      | inl e ↦ absurd (other (same_number k x e))
      | inr e ↦ e
    ]

-- ---- distinct keys

-- A key that isn't above the lower bound isn't there.
below_absent : (low : ℕ) (ks : List Key) (k : Key) → RiseFrom low ks → number_after k ≤ low
    → list_any (key_eq k) ks ≡ false
below_absent low [] k r below = refl
below_absent low (x ∷ ks) k r below =
    rw (apart k x (λ e. omega (arith, r.0, below, e)))
    (below_absent (number_after x) ks k r.1 (omega (arith, r.0, below)))

-- A key that isn't above the lower bound is apart from each.
all_apart : (low : ℕ) (ks : List Key) (k : Key) → RiseFrom low ks → number_after k ≤ low
    → AllByRecursion (λ x. key_eq k x ≡ false) ks
all_apart low [] k r below = tt
all_apart low (x ∷ ks) k r below = (
  apart k x (λ e. omega (arith, r.0, below, e)),
  all_apart (number_after x) ks k r.1 (omega (arith, r.0, below)),
)

-- Keys that rise are distinct.
pub RiseFrom-distinct : (low : ℕ) (ks : List Key) → RiseFrom low ks → IsDistinct key_eq ks
unfolding IsDistinct
RiseFrom-distinct low [] r = tt
RiseFrom-distinct low (x ∷ ks) r =
    (all_apart (number_after x) ks x r.1 (omega arith), RiseFrom-distinct (number_after x) ks r.1)

-- ---- fewer keys and more

-- The lower bound may fall.
RiseFrom-weaker : (low less : ℕ) (ks : List Key) → RiseFrom low ks → less ≤ low → RiseFrom less ks
RiseFrom-weaker low less [] r le = tt
RiseFrom-weaker low less (x ∷ ks) r le = (omega (arith, r.0, le), r.1)

-- A key may be removed.
pub RiseFrom-remove : (low : ℕ) (test : Key → Bool) (ks : List Key) → RiseFrom low ks
    → RiseFrom low (remove_key test ks)
RiseFrom-remove low test [] r = tt
RiseFrom-remove low test (x ∷ ks) r =
    elim (test x) as (λ b. RiseFrom low (cond b ks (x ∷ remove_key test ks))) [
      | true ↦ RiseFrom-weaker (number_after x) low ks r.1 (omega (arith, r.0))
      | false ↦ (r.0, RiseFrom-remove (number_after x) test ks r.1)
    ]

-- The last key may be removed.
pub RiseFrom-front : (low : ℕ) (ks : List Key) (k : Key) → RiseFrom low (ks ++ k ∷ []) → RiseFrom low ks
RiseFrom-front low [] k r = tt
RiseFrom-front low (x ∷ ks) k r = (r.0, RiseFrom-front (number_after x) ks k r.1)

-- the number behind the last key, or the lower bound
abbrev pub last_after : ℕ → List Key → ℕ
last_after low [] = low
last_after low (x ∷ ks) = last_after (number_after x) ks

-- The last key is the one at the last place.
pub last_after-there : (low : ℕ) (ks : List Key) (i : ℕ) (x : Key) → suc i ≡ length ks → slice_get ks i ≡ Some x
    → last_after low ks ≡ number_after x
last_after-there low [] i x n e = grind arith
last_after-there low (y ∷ []) zero x n e =
    let same : y ≡ x = grind arith in
    ap number_after same
last_after-there low (y ∷ []) (suc i) x n e = absurd (omega (arith, n))
last_after-there low (y ∷ z ∷ ks) zero x n e = absurd (omega (arith, n))
last_after-there low (y ∷ z ∷ ks) (suc i) x n e =
    last_after-there (number_after y) (z ∷ ks) i x (omega (arith, n)) e

-- Where there is no last key there is none.
pub last_after-none : (low : ℕ) (ks : List Key) → slice_get ks (length ks - 1) ≡ None → last_after low ks ≡ low
last_after-none low [] e = refl
last_after-none low (y ∷ ks) e =
    absurd (none-some _ (sym e ∙ slice_get-get_or (y ∷ ks) (length (y ∷ ks) - 1) y (omega arith)))

-- A key above the last may come behind it.
pub RiseFrom-push : (low : ℕ) (ks : List Key) (k : Key) → RiseFrom low ks → last_after low ks < number_after k
    → RiseFrom low (ks ++ k ∷ [])
RiseFrom-push low [] k r above = (above, tt)
RiseFrom-push low (x ∷ ks) k r above = (r.0, RiseFrom-push (number_after x) ks k r.1 above)

-- The last key is above those before it.
pub RiseFrom-last : (low : ℕ) (ks : List Key) (k : Key) → RiseFrom low (ks ++ k ∷ [])
    → last_after low ks < number_after k
RiseFrom-last low [] k r = r.0
RiseFrom-last low (x ∷ ks) k r = RiseFrom-last (number_after x) ks k r.1

-- ---- places

-- A key at a place is above the lower bound.
above_at : (low : ℕ) (ks : List Key) (i : ℕ) (x : Key) → RiseFrom low ks → slice_get ks i ≡ Some x
    → low < number_after x
above_at low [] i x r e = grind arith
above_at low (y ∷ ks) zero x r e =
    let same : y ≡ x = grind arith in
    omega (arith, r.0, ap number_after same)
above_at low (y ∷ ks) (suc i) x r e = omega (arith, r.0, above_at (number_after y) ks i x r.1 e)

-- Keys are equal to one at a place at that place first.
place_at : (low : ℕ) (ks : List Key) (i : ℕ) (k x : Key) → RiseFrom low ks → slice_get ks i ≡ Some x
    → key_eq k x ≡ true → position_or_len (key_eq k) ks ≡ i
place_at low [] i k x r e same = grind arith
place_at low (y ∷ ks) zero k x r e same =
    let here : x ≡ y = grind arith in
    let found : key_eq k y ≡ true = sym (ap (key_eq k) here) ∙ same in
    rw found refl
place_at low (y ∷ ks) (suc i) k x r e same =
    let above = above_at (number_after y) ks i x r.1 e in
    rw (apart k y (λ f. omega (arith, above, same_number k x same, f)))
    (sym (one_more (position_or_len (key_eq k) ks)) ∙ ap suc (place_at (number_after y) ks i k x r.1 e same))

-- A place within a list.
pub within : (ks : List Key) (i : ℕ) (x : Key) → slice_get ks i ≡ Some x → i < length ks
within [] i x e = grind arith
within (y ∷ ks) zero x e = omega arith
within (y ∷ ks) (suc i) x e = omega (arith, within ks i x e)

-- The place of a key that stands there.
pub position-there : (low : ℕ) (ks : List Key) (i : ℕ) (k x : Key) → RiseFrom low ks → slice_get ks i ≡ Some x
    → key_eq k x ≡ true → Some i ≡ position (key_eq k) ks
position-there low ks i k x r e same =
    let place = place_at low ks i k x r e same in
    sym (ap (λ b. cond b (Some (position_or_len (key_eq k) ks)) None)
    (lt-ltb (position_or_len (key_eq k) ks) (length ks) (omega (arith, place, within ks i x e))) ∙ ap Some place)

-- A test that holds of the key at a place.
pub stands : (test : Key → Bool) (o : Option Key) → option_map_or test o false ≡ true
    → (x : Key) × (o ≡ Some x) × (test x ≡ true)
stands test None e = grind arith
stands test (Some x) e = (x, refl, e)

-- Whether there is a place, at the first key.
found_step : (b : Bool) (p n : ℕ) (a : Bool) → is_some (cond (nat_lt p n) (Some p) None) ≡ a
    → is_some (cond (nat_lt (cond (not b) (1 + p) 0) (suc n)) (Some (cond (not b) (1 + p) 0)) None) ≡ (b || a)
found_step true p n a e = rw (lt-ltb 0 (suc n) (omega arith)) refl
found_step false p n a e =
    elim (cases_Bool (nat_lt p n)) [
      | inl less ↦ rw (lt-ltb (1 + p) (suc n) (omega (arith, ltb-true p n less)))
          (sym (ap (λ c. is_some (cond c (Some p) None)) less) ∙ e)
      | inr more ↦ rw (le-ltb (1 + p) (suc n) (omega (arith, ltb-false p n more)))
          (sym (ap (λ c. is_some (cond c (Some p) None)) more) ∙ e)
    ]

-- There is a place exactly where a key passes.
pub is_some-position : (test : Key → Bool) (ks : List Key) → is_some (position test ks) ≡ list_any test ks
is_some-position test [] = refl
is_some-position test (x ∷ ks) =
    found_step (test x) (position_or_len test ks) (length ks) (list_any test ks) (is_some-position test ks)

-- Nothing that is there is nothing.
none_of : (o : Option ℕ) → is_some o ≡ false → None ≡ o
none_of None e = refl
none_of (Some i) e = grind arith

-- Where no key passes there is no place.
pub position-absent : (test : Key → Bool) (ks : List Key) → list_any test ks ≡ false → None ≡ position test ks
position-absent test ks e = none_of (position test ks) (is_some-position test ks ∙ e)

-- A key that isn't a natural number isn't there.
pub position-no_number : (ks : List Key) (k : Key) → RiseFrom 0 ks → number_after k ≡ 0
    → None ≡ position (key_eq k) ks
position-no_number ks k r e =
    position-absent (key_eq k) ks (below_absent 0 ks k r (omega (arith, e)))

-- ---- a search by halves

-- A key at a place is above the lower bound, by index.
above_index : (low : ℕ) (ks : List Key) (i : ℕ) (d : Key) → RiseFrom low ks → i < length ks
    → low < number_after (slice_index_or ks i d)
above_index low [] i d r h = absurd (omega arith)
above_index low (x ∷ ks) zero d r h = r.0
above_index low (x ∷ ks) (suc i) d r h =
    omega (arith, r.0, above_index (number_after x) ks i d r.1 (omega arith))

-- Of two places the later has the larger key.
risen : (low : ℕ) (ks : List Key) (i j : ℕ) (d : Key) → RiseFrom low ks → i ≤ j → j < length ks
    → number_after (slice_index_or ks i d) ≤ number_after (slice_index_or ks j d)
risen low [] i j d r le h = absurd (omega arith)
risen low (x ∷ ks) zero zero d r le h = omega arith
risen low (x ∷ ks) zero (suc j) d r le h = omega (arith, above_index (number_after x) ks j d r.1 (omega arith))
risen low (x ∷ ks) (suc i) zero d r le h = absurd (omega arith)
risen low (x ∷ ks) (suc i) (suc j) d r le h = risen (number_after x) ks i j d r.1 (omega arith) (omega arith)

-- The keys below a number come before the others.
pub RiseFrom-parted : (low past : ℕ) (ks : List Key) → RiseFrom low ks
    → IsPartitionedBy (λ x. nat_lt (number_after x) past) ks
RiseFrom-parted low past ks r i j d le h e =
    lt-ltb (number_after (slice_index_or ks i d)) past
    (omega (arith, risen low ks i j d r le h, ltb-true (number_after (slice_index_or ks j d)) past e))

-- A key that isn't where the keys below it end isn't there.
pub absent_past : (low : ℕ) (ks : List Key) (k : Key) (i : ℕ) → RiseFrom low ks
    → AllWithin (λ x. nat_lt (number_after x) (number_after k) ≡ true) ks 0 i
    → AllWithin (λ x. nat_lt (number_after x) (number_after k) ≡ false) ks i (length ks)
    → option_map_or (key_eq k) (slice_get ks i) false ≡ false → list_any (key_eq k) ks ≡ false
absent_past low [] k i r before behind none = refl
absent_past low (x ∷ ks) k zero r before behind none =
    rw none
    (below_absent (number_after x) ks k r.1
    (ltb-false (number_after x) (number_after k) (behind 0 x (omega arith) (omega arith))))
absent_past low (x ∷ ks) k (suc i) r before behind none =
    let below = ltb-true (number_after x) (number_after k) (before 0 x (omega arith) (omega arith)) in
    rw (apart k x (λ e. omega (arith, below, e)))
    (absent_past (number_after x) ks k i r.1 (λ j d low high. before (suc j) d (omega arith) (omega arith))
    (λ j d low high. behind (suc j) d (omega arith) (omega arith)) none)

-- ---- removal

-- A removal by place, at the first key.
removed_step : (b : Bool) (x : Key) (ks js : List Key) (p : ℕ) → js ≡ remove ks p
    → cond b ks (x ∷ js) ≡ remove (x ∷ ks) (cond (not b) (1 + p) 0)
removed_step true x ks js p e = refl
removed_step false x ks js p e = ap (λ l. x ∷ l) e ∙ ap (remove (x ∷ ks)) (one_more p)

-- A removal takes the key at its place.
remove_key-place : (test : Key → Bool) (ks : List Key) → remove_key test ks ≡ remove ks (position_or_len test ks)
remove_key-place test [] = refl
remove_key-place test (x ∷ ks) =
    removed_step (test x) x ks (remove_key test ks) (position_or_len test ks) (remove_key-place test ks)

-- Where no key passes, none is removed.
pub remove_key-absent : (test : Key → Bool) (ks : List Key) → list_any test ks ≡ false → ks ≡ remove_key test ks
remove_key-absent test [] e = refl
remove_key-absent test (x ∷ ks) e =
    let parts = or_parts (test x) (list_any test ks) e in
    rw parts.0 (ap (λ l. x ∷ l) (remove_key-absent test ks parts.1))

-- Without the key at its place the keys are without it.
pub remove_key-there : (test : Key → Bool) (ks : List Key) (i : ℕ) → position test ks ≡ Some i
    → remove ks i ≡ remove_key test ks
remove_key-there test ks i e = sym (remove_key-place test ks ∙ ap (remove ks) (place_of test ks i e).0)
