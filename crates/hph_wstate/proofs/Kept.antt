-- Locals of which only those that were written are kept.
use Rattle.std.proofs.Common.{◌≡◌, ◌≢◌, ◌∙◌, ◌<◌, ◌≤◌, ◌+◌, ◌-◌, ℕ, zero, suc, List, [], ◌∷◌, ◌++◌, Bool, true, false, cond, Option, Some, None, length, take, drop, sym, ap, refl, arith, append_assoc, subst, Ok, Err, Less, Equal, Greater}
use Rattle.std.specs.Prelude.{slice_get, slice_set, nat_lt, Result, IfOk}
use Rattle.std.specs.Ordering.{nat_cmp, is_eq}
use Rattle.std.specs.BTreeMap.{BTreeMap, get, is_at, Updates}
use Rattle.std.proofs.lemmas.Bool.{ne_eqb}
use Rattle.std.proofs.lemmas.List.{length-drop, set-append_left, set-append_right, length-append, map-append, take-append-drop}
use Rattle.std.proofs.lemmas.Option.{slice_get_past}
use Rattle.hph_wasm.specs.declared.value.Value.{Value}
use Rattle.hph_wasm.specs.declared.types.ValType.{ValType}
use Rattle.hph_wasm.specs.Choice.{if_some}
use Rattle.hph_wasm.specs.Values.{value_of, zero_values}
use Rattle.hph_wstate.specs.Written.{values_from, Written}

length_from : (written : BTreeMap ℕ Value) (k : ℕ) (ts : List ValType) → length (values_from written k ts) ≡ length ts
length_from written k [] = refl
length_from written k (t ∷ ts) = ap suc (length_from written (suc k) ts)

-- The value of a local, by what was written.
value_at : (written : BTreeMap ℕ Value) (k i : ℕ) (ts : List ValType) → slice_get (values_from written k ts) i ≡
    if_some (slice_get ts i) None (λ t. Some (if_some (get nat_cmp written (k + i)) (value_of t 0) (λ v. v)))
value_at written k i [] = refl
value_at written k zero (t ∷ ts) = let same : k + 0 ≡ k = omega arith in rw same refl
value_at written k (suc i) (t ∷ ts) = let same : k + suc i ≡ suc k + i = omega arith in rw same (value_at written (suc k) i ts)

get_behind : {X : Type 0} (n i : ℕ) (xs : List X) → slice_get (drop n xs) i ≡ slice_get xs (n + i)
get_behind zero i xs = let same : 0 + i ≡ i = omega arith in rw same refl
get_behind (suc n) i [] = refl
get_behind (suc n) i (x ∷ xs) = let same : suc n + i ≡ suc (n + i) = omega arith in rw same (get_behind n i xs)

module _ (written : BTreeMap ℕ Value) (types : List ValType) (first left place : ℕ) where
  pub past : first ≤ length types → left ≡ length types - first → left ≤ place →
      None ≡ slice_get (values_from written 0 (drop first types)) place
  past h e p =
      let few : length (values_from written 0 (drop first types)) ≡ length types - first =
      length_from written 0 (drop first types) ∙ length-drop first types in
      sym (slice_get_past (values_from written 0 (drop first types)) place (omega arith))

module _ (written : BTreeMap ℕ Value) (types : List ValType) (first place : ℕ) where
  by_type : slice_get (values_from written 0 (drop first types)) place ≡
      if_some (slice_get types (first + place)) None (λ t. Some (if_some (get nat_cmp written place) (value_of t 0) (λ v. v)))
  by_type = let same : 0 + place ≡ place = omega arith in
      subst (λ k. slice_get (values_from written 0 (drop first types)) place ≡
      if_some (slice_get (drop first types) place) None (λ t. Some (if_some (get nat_cmp written k) (value_of t 0) (λ v. v)))) same
      (value_at written 0 place (drop first types)) ∙ ap (λ o. if_some o None
      (λ t. Some (if_some (get nat_cmp written place) (value_of t 0) (λ v. v)))) (get_behind first place types)

  pub untouched : (t : ValType) (z : Value) → None ≡ get nat_cmp written place → Some t ≡ slice_get types (first + place) → z ≡ value_of t 0 →
      Some z ≡ slice_get (values_from written 0 (drop first types)) place
  untouched t z e f g = sym (by_type ∙ rw (← f, ← e, g) refl)

  pub no_local : None ≡ slice_get types (first + place) → None ≡ slice_get (values_from written 0 (drop first types)) place
  no_local f = sym (by_type ∙ rw (← f) refl)

  pub touched : (v : Value) → Some v ≡ get nat_cmp written place → place < length types - first →
      Some v ≡ slice_get (values_from written 0 (drop first types)) place
  touched v e h = sym (by_type ∙ by (slice_get types (first + place)) refl)
    where
      by : (o : Option ValType) → slice_get types (first + place) ≡ o →
          if_some o None (λ t. Some (if_some (get nat_cmp written place) (value_of t 0) (λ v. v))) ≡ Some v
      by None p = absurd (there_is types (first + place) (omega arith) p)
        where
          there_is : (ts : List ValType) (i : ℕ) → i < length ts → slice_get ts i ≡ None → ⊥
          there_is [] i h p = omega arith
          there_is (t ∷ ts) zero h p = cc
          there_is (t ∷ ts) (suc i) h p = there_is ts i (omega arith) p
      by (Some t) p = rw (← e) refl

-- ---- writes

apart : (k q : ℕ) → (k ≢ q) → is_at (nat_cmp k) q ≡ false
apart k q ne = rw (ne_eqb k q ne) (either (nat_lt k q))
  where
    either : (b : Bool) → is_eq (cond b Less (cond false Equal Greater)) ≡ false
    either true = refl
    either false = refl

module _ (old new : BTreeMap ℕ Value) (key : ℕ) (v : Value) (updates : Updates nat_cmp old new key (Some v)) where
  same_past : (k : ℕ) (ts : List ValType) → key < k → values_from new k ts ≡ values_from old k ts
  same_past k [] h = refl
  same_past k (t ∷ ts) h =
      let other : get nat_cmp new k ≡ get nat_cmp old k = updates.2 k (apart key k (λ e. absurd (omega arith))) in
      rw other (ap (λ l. if_some (get nat_cmp old k) (value_of t 0) (λ v. v) ∷ l) (same_past (suc k) ts (omega arith)))

  set_from : (k i : ℕ) (ts : List ValType) → key ≡ k + i → i < length ts →
      values_from new k ts ≡ slice_set (values_from old k ts) i v
  set_from k i [] e h = absurd (omega arith)
  set_from k zero (t ∷ ts) e h =
      let here : key ≡ k = omega arith in
      let there : get nat_cmp new k ≡ Some v = ap (get nat_cmp new) (sym here) ∙ updates.1 in
      rw there (ap (λ l. v ∷ l) (same_past (suc k) ts (omega arith)))
  set_from k (suc i) (t ∷ ts) e h =
      let ne : key ≢ k = λ same. absurd (omega (arith, e, same)) in
      let other : get nat_cmp new k ≡ get nat_cmp old k = updates.2 k (apart key k ne) in
      let next : key ≡ suc k + i = e ∙ omega arith in
      rw other (ap (λ l. if_some (get nat_cmp old k) (value_of t 0) (λ v. v) ∷ l) (set_from (suc k) i ts next (omega arith)))

pub refused : (written : BTreeMap ℕ Value) (types : List ValType) (first left place : ℕ) (v : Value) → first ≤ length types →
    left ≡ length types - first → left ≤ place →
    Written place v (values_from written 0 (drop first types)) false (values_from written 0 (drop first types))
refused written types first left place v h e p =
    let few : length (values_from written 0 (drop first types)) ≡ length types - first =
    length_from written 0 (drop first types) ∙ length-drop first types in
    (omega arith, refl)

pub set_done : (old new : BTreeMap ℕ Value) (types : List ValType) (first left place : ℕ) (v : Value) → first ≤ length types →
    left ≡ length types - first → place < left → Updates nat_cmp old new place (Some v) →
    Written place v (values_from old 0 (drop first types)) true (values_from new 0 (drop first types))
set_done old new types first left place v h e p updates =
    let few : length (values_from old 0 (drop first types)) ≡ length types - first =
    length_from old 0 (drop first types) ∙ length-drop first types in
    let within : place < length (drop first types) = let size = length-drop first types in omega arith in
    (omega arith, set_from old new place v updates 0 place (drop first types) (omega arith) within)

-- ---- the first locals and the others

pub get_far : (near far : List Value) (x : ℕ) → length near ≤ x → slice_get (near ++ far) x ≡ slice_get far (x - length near)
get_far [] far x h = let same : x - 0 ≡ x = omega arith in rw same refl
get_far (v ∷ near) far zero h = absurd (omega arith)
get_far (v ∷ near) far (suc x) h =
    let same : suc x - suc (length near) ≡ x - length near = omega arith in
    rw same (get_far near far x (omega arith))

pub set_near : (near far : List Value) (x : ℕ) (v : Value) → x < length near → Written x v (near ++ far) true (slice_set near x v ++ far)
set_near near far x v h = (let all : length (near ++ far) ≡ length near + length far = length-append near far in omega arith, sym (set-append_left near far x v h))

set_far : (near far new : List Value) (x : ℕ) (v : Value) (there : Bool) → length near ≤ x → Written (x - length near) v far there new →
    Written x v (near ++ far) there (near ++ new)
set_far near far new x v true h (within, e) =
    let all : length (near ++ far) ≡ length near + length far = length-append near far in
    (omega arith, ap (λ l. near ++ l) e ∙ sym (set-append_right near far (length near) x v refl h))
set_far near far new x v false h (past, e) =
    let all : length (near ++ far) ≡ length near + length far = length-append near far in
    (omega arith, ap (λ l. near ++ l) e)

pub set_far_done : {E : Type 0} (r : Result Bool E) (near far new : List Value) (x n : ℕ) (v : Value) → n ≡ length near → n ≤ x →
    IfOk r (λ there. Written (x - n) v far there new) → IfOk r (λ there. Written x v (near ++ far) there (near ++ new))
set_far_done (Ok there) near far new x n v e h w = set_far near far new x v there (subst (λ k. k ≤ x) e h) (subst (λ k. Written (x - k) v far there new) e w)
set_far_done (Err f) near far new x n v e h w = tt

-- Zeros in two parts.
pub zeros_in_two : (passed near far : List Value) (ts : List ValType) (n : ℕ) → near ≡ passed ++ zero_values (take n ts) → far ≡ zero_values (drop n ts) →
    near ++ far ≡ passed ++ zero_values ts
zeros_in_two passed near far ts n e f =
    ap (λ l. l ++ far) e ∙ (append_assoc passed (zero_values (take n ts)) far ∙
    ap (λ l. passed ++ l) (ap (λ l. zero_values (take n ts) ++ l) f ∙
    (sym (map-append (λ ty. value_of ty 0) (take n ts) (drop n ts)) ∙ ap zero_values (take-append-drop n ts))))
