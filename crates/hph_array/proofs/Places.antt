-- Keys and values at the same places, as a list of pairs.
use Rattle.std.proofs.Common.{◌≡◌, ℕ, zero, suc, ◌+◌, ◌<◌, ◌≤◌, Bool, true, false, cond, not, List, [], ◌∷◌, ◌++◌}
use Rattle.std.proofs.Common.{length, slice_get, slice_set, remove, Option, None, Some, refl, ap, arith, ◌∙◌, nat_lt}
use Rattle.std.proofs.Common.{◌||◌, length-append}
use Rattle.std.specs.List.{zip, position_or_len, position, list_any}
use Rattle.std.specs.Map.{keys_of, lookup, remove_entry, set_value}
use Rattle.std.specs.Set.{remove_key}
use Rattle.std.specs.Option.{is_some}
use Rattle.std.proofs.lemmas.Bool.{ltb-true, ltb-false, or_parts}
use Rattle.std.proofs.lemmas.Option.{slice_get_past}
use Rattle.hph_array.specs.declared.key.Key.{Key}
use Rattle.hph_array.specs.Key.{key_eq}
use Rattle.hph_array.specs.Array.{put}

-- The successor, as a sum.
pub one_more : (p : ℕ) → suc p ≡ 1 + p
one_more p = omega arith

-- A choice between Some and None that gives Some.
some_in : (b : Bool) (p i : ℕ) → cond b (Some p) None ≡ Some i → (b ≡ true) × (p ≡ i)
some_in true p i e = (refl, grind arith)
some_in false p i e = grind arith

-- A choice between Some and None that gives None.
none_in : (b : Bool) (p : ℕ) → cond b (Some p) None ≡ None → b ≡ false
none_in true p e = grind arith
none_in false p e = refl

module _ (test : Key → Bool) (ks : List Key) where
  -- The place of the first key that passes is within the keys.
  pub place_of : (i : ℕ) → position test ks ≡ Some i → (position_or_len test ks ≡ i) × (i < length ks)
  place_of i e =
      let parts = some_in (nat_lt (position_or_len test ks) (length ks)) (position_or_len test ks) i e in
      (parts.1, omega (arith, ltb-true (position_or_len test ks) (length ks) parts.0, parts.1))

  -- Where no key passes, the place is past the keys.
  pub no_place : position test ks ≡ None → length ks ≤ position_or_len test ks
  no_place e = ltb-false (position_or_len test ks) (length ks)
      (none_in (nat_lt (position_or_len test ks) (length ks)) (position_or_len test ks) e)

module _ {V : Type 0} where
  -- There are as many pairs as keys.
  pub length-zip : (ks : List Key) (vs : List V) → length vs ≡ length ks → length (zip ks vs) ≡ length ks
  length-zip [] [] e = refl
  length-zip [] (v ∷ vs) e = absurd (omega arith)
  length-zip (k ∷ ks) [] e = absurd (omega arith)
  length-zip (k ∷ ks) (v ∷ vs) e = ap suc (length-zip ks vs (omega arith))

  -- The keys of the pairs are the keys.
  pub keys_of-zip : (ks : List Key) (vs : List V) → length vs ≡ length ks → keys_of (zip ks vs) ≡ ks
  keys_of-zip [] [] e = refl
  keys_of-zip [] (v ∷ vs) e = absurd (omega arith)
  keys_of-zip (k ∷ ks) [] e = absurd (omega arith)
  keys_of-zip (k ∷ ks) (v ∷ vs) e = ap (λ l. k ∷ l) (keys_of-zip ks vs (omega arith))

  -- A key and a value last are a pair last.
  pub zip-push : (ks : List Key) (vs : List V) (k : Key) (v : V) → length vs ≡ length ks
      → zip (ks ++ k ∷ []) (vs ++ v ∷ []) ≡ zip ks vs ++ (k, v) ∷ []
  zip-push [] [] k v e = refl
  zip-push [] (w ∷ vs) k v e = absurd (omega arith)
  zip-push (x ∷ ks) [] k v e = absurd (omega arith)
  zip-push (x ∷ ks) (w ∷ vs) k v e = ap (λ l. (x, w) ∷ l) (zip-push ks vs k v (omega arith))

  -- A key and a value last leave as many values as keys.
  pub length-push : (ks : List Key) (vs : List V) (k : Key) (v : V) → length vs ≡ length ks
      → length (vs ++ v ∷ []) ≡ length (ks ++ k ∷ [])
  length-push ks vs k v e = omega (arith, length-append vs (v ∷ []), length-append ks (k ∷ []))

  -- A key and a value at one place are the pair at that place.
  pub slice_get-zip : (ks : List Key) (vs : List V) (i : ℕ) (k : Key) (v : V) → slice_get ks i ≡ Some k
      → slice_get vs i ≡ Some v → slice_get (zip ks vs) i ≡ Some (k, v)
  slice_get-zip [] vs i k v ek ev = grind arith
  slice_get-zip (x ∷ ks) [] i k v ek ev = grind arith
  slice_get-zip (x ∷ ks) (w ∷ vs) zero k v ek ev = grind arith
  slice_get-zip (x ∷ ks) (w ∷ vs) (suc i) k v ek ev = slice_get-zip ks vs i k v ek ev

  -- Where there is no key there is no pair.
  pub slice_get-zip-no_key : (ks : List Key) (vs : List V) (i : ℕ) → slice_get ks i ≡ None
      → slice_get (zip ks vs) i ≡ None
  slice_get-zip-no_key [] vs i e = refl
  slice_get-zip-no_key (k ∷ ks) [] i e = refl
  slice_get-zip-no_key (k ∷ ks) (v ∷ vs) zero e = grind arith
  slice_get-zip-no_key (k ∷ ks) (v ∷ vs) (suc i) e = slice_get-zip-no_key ks vs i e

  -- Where there is no value there is no pair.
  pub slice_get-zip-no_value : (ks : List Key) (vs : List V) (i : ℕ) → slice_get vs i ≡ None
      → slice_get (zip ks vs) i ≡ None
  slice_get-zip-no_value [] vs i e = refl
  slice_get-zip-no_value (k ∷ ks) [] i e = refl
  slice_get-zip-no_value (k ∷ ks) (v ∷ vs) zero e = grind arith
  slice_get-zip-no_value (k ∷ ks) (v ∷ vs) (suc i) e = slice_get-zip-no_value ks vs i e

  -- A look-up by place, at the first pair.
  found : (b : Bool) (v : V) (vs : List V) (r : Option V) (p : ℕ) → r ≡ slice_get vs p
      → cond b (Some v) r ≡ slice_get (v ∷ vs) (cond (not b) (1 + p) 0)
  found true v vs r p e = refl
  found false v vs r p e = e ∙ ap (slice_get (v ∷ vs)) (one_more p)

  -- A look-up gives the value at the place of the key.
  lookup-zip : (test : Key → Bool) (ks : List Key) (vs : List V) → length vs ≡ length ks
      → lookup test (zip ks vs) ≡ slice_get vs (position_or_len test ks)
  lookup-zip test [] [] e = refl
  lookup-zip test [] (v ∷ vs) e = absurd (omega arith)
  lookup-zip test (k ∷ ks) [] e = absurd (omega arith)
  lookup-zip test (k ∷ ks) (v ∷ vs) e =
      found (test k) v vs (lookup test (zip ks vs)) (position_or_len test ks) (lookup-zip test ks vs (omega arith))

  -- Whether a value is found, at the first pair.
  there : (b : Bool) (v : V) (r : Option V) (t : Bool) → is_some r ≡ t → is_some (cond b (Some v) r) ≡ (b || t)
  there true v r t e = refl
  there false v r t e = e

  -- A value is found exactly where a key passes.
  pub is_some-lookup-zip : (test : Key → Bool) (ks : List Key) (vs : List V) → length vs ≡ length ks
      → is_some (lookup test (zip ks vs)) ≡ list_any test ks
  is_some-lookup-zip test [] vs e = refl
  is_some-lookup-zip test (k ∷ ks) [] e = absurd (omega arith)
  is_some-lookup-zip test (k ∷ ks) (v ∷ vs) e =
      there (test k) v (lookup test (zip ks vs)) (list_any test ks) (is_some-lookup-zip test ks vs (omega arith))

  module _ (test : Key → Bool) (ks : List Key) (vs : List V) (same : length vs ≡ length ks) where
    -- The value of a key is the one at the key's place.
    pub lookup-zip-there : (i : ℕ) → position test ks ≡ Some i → lookup test (zip ks vs) ≡ slice_get vs i
    lookup-zip-there i e = lookup-zip test ks vs same ∙ ap (slice_get vs) (place_of test ks i e).0

    -- Where no key passes there is no value.
    pub lookup-zip-absent : position test ks ≡ None → lookup test (zip ks vs) ≡ None
    lookup-zip-absent e = lookup-zip test ks vs same
        ∙ slice_get_past vs (position_or_len test ks) (omega (arith, no_place test ks e, same))

  -- A put at a key that is there sets the value at the key's place.
  put-zip : (k : Key) (v : V) (ks : List Key) (vs : List V) → length vs ≡ length ks
      → position_or_len (key_eq k) ks < length ks
      → put (zip ks vs) k v ≡ zip ks (slice_set vs (position_or_len (key_eq k) ks) v)
  put-zip k v [] vs e within = absurd (omega arith)
  put-zip k v (x ∷ ks) [] e within = absurd (omega arith)
  put-zip k v (x ∷ ks) (w ∷ vs) e within =
      elim (key_eq k x) as (λ b. cond (not b) (1 + position_or_len (key_eq k) ks) 0 < suc (length ks)
      → cond b ((x, v) ∷ zip ks vs) ((x, w) ∷ put (zip ks vs) k v) ≡ zip (x ∷ ks)
      (slice_set (w ∷ vs) (cond (not b) (1 + position_or_len (key_eq k) ks) 0) v)) [
        | true ↦ λ h. refl
        | false ↦ λ h. ap (λ l. (x, w) ∷ l) (put-zip k v ks vs (omega arith) (omega arith))
            ∙ ap (λ n. zip (x ∷ ks) (slice_set (w ∷ vs) n v)) (one_more (position_or_len (key_eq k) ks))
      ] within

  -- Put at a key that is there, a value takes the key's place.
  pub put-zip-there : (k : Key) (v : V) (ks : List Key) (vs : List V) → length vs ≡ length ks → (i : ℕ)
      → position (key_eq k) ks ≡ Some i → put (zip ks vs) k v ≡ zip ks (slice_set vs i v)
  put-zip-there k v ks vs same i e =
      let place = place_of (key_eq k) ks i e in
      put-zip k v ks vs same (omega (arith, place.0, place.1)) ∙ ap (λ n. zip ks (slice_set vs n v)) place.0

  -- A put at a key that isn't there goes past all pairs.
  past_zip : (k : Key) (v : V) (ks : List Key) (vs : List V) → length vs ≡ length ks
      → length ks ≤ position_or_len (key_eq k) ks → put (zip ks vs) k v ≡ zip (ks ++ k ∷ []) (vs ++ v ∷ [])
  past_zip k v [] [] e past = refl
  past_zip k v [] (w ∷ vs) e past = absurd (omega arith)
  past_zip k v (x ∷ ks) [] e past = absurd (omega arith)
  past_zip k v (x ∷ ks) (w ∷ vs) e past =
      elim (key_eq k x) as (λ b. suc (length ks) ≤ cond (not b) (1 + position_or_len (key_eq k) ks) 0
      → cond b ((x, v) ∷ zip ks vs) ((x, w) ∷ put (zip ks vs) k v) ≡ (x, w) ∷ zip (ks ++ k ∷ []) (vs ++ v ∷ [])) [
        | true ↦ λ h. absurd (omega arith)
        | false ↦ λ h. ap (λ l. (x, w) ∷ l) (past_zip k v ks vs (omega arith) (omega arith))
      ] past

  -- Put at a new key, a value goes last.
  pub put-zip-absent : (k : Key) (v : V) (ks : List Key) (vs : List V) → length vs ≡ length ks
      → position (key_eq k) ks ≡ None → put (zip ks vs) k v ≡ zip (ks ++ k ∷ []) (vs ++ v ∷ [])
  put-zip-absent k v ks vs same e = past_zip k v ks vs same (no_place (key_eq k) ks e)

  -- A replacement by place, at the first pair.
  set_step : (b : Bool) (k : Key) (v w : V) (ks : List Key) (vs : List V) (r : List (Key × V)) (p : ℕ)
      → r ≡ zip ks (slice_set vs p v)
      → cond b ((k, v) ∷ zip ks vs) ((k, w) ∷ r) ≡ zip (k ∷ ks) (slice_set (w ∷ vs) (cond (not b) (1 + p) 0) v)
  set_step true k v w ks vs r p e = refl
  set_step false k v w ks vs r p e = ap (λ l. (k, w) ∷ l) e
      ∙ ap (λ n. zip (k ∷ ks) (slice_set (w ∷ vs) n v)) (one_more p)

  -- A replacement sets the value at the place of the key.
  set_value-zip : (test : Key → Bool) (v : V) (ks : List Key) (vs : List V) → length vs ≡ length ks
      → set_value test (zip ks vs) v ≡ zip ks (slice_set vs (position_or_len test ks) v)
  set_value-zip test v [] [] e = refl
  set_value-zip test v [] (w ∷ vs) e = absurd (omega arith)
  set_value-zip test v (k ∷ ks) [] e = absurd (omega arith)
  set_value-zip test v (k ∷ ks) (w ∷ vs) e =
      set_step (test k) k v w ks vs (set_value test (zip ks vs) v) (position_or_len test ks)
      (set_value-zip test v ks vs (omega arith))

  -- Another value at a key that is there takes the key's place.
  pub set_value-zip-there : (test : Key → Bool) (v : V) (ks : List Key) (vs : List V) → length vs ≡ length ks
      → (i : ℕ) → position test ks ≡ Some i → set_value test (zip ks vs) v ≡ zip ks (slice_set vs i v)
  set_value-zip-there test v ks vs same i e = set_value-zip test v ks vs same
      ∙ ap (λ n. zip ks (slice_set vs n v)) (place_of test ks i e).0

  -- Where no key passes, no value is replaced.
  pub set_value-zip-absent : (test : Key → Bool) (v : V) (ks : List Key) (vs : List V) → list_any test ks ≡ false
      → set_value test (zip ks vs) v ≡ zip ks vs
  set_value-zip-absent test v [] vs e = refl
  set_value-zip-absent test v (k ∷ ks) [] e = refl
  set_value-zip-absent test v (k ∷ ks) (w ∷ vs) e =
      let parts = or_parts (test k) (list_any test ks) e in
      rw parts.0 (ap (λ l. (k, w) ∷ l) (set_value-zip-absent test v ks vs parts.1))

  -- A removal by place, at the first pair.
  remove_step : (b : Bool) (x : Key) (w : V) (ks ks' : List Key) (vs : List V) (r : List (Key × V)) (p : ℕ)
      → r ≡ zip ks' (remove vs p) → cond b (zip ks vs) ((x, w) ∷ r) ≡ zip (cond b ks (x ∷ ks'))
      (remove (w ∷ vs) (cond (not b) (1 + p) 0))
  remove_step true x w ks ks' vs r p e = refl
  remove_step false x w ks ks' vs r p e = ap (λ l. (x, w) ∷ l) e
      ∙ ap (λ n. zip (x ∷ ks') (remove (w ∷ vs) n)) (one_more p)

  -- A removal takes the key and the value at its place.
  remove_entry-zip : (test : Key → Bool) (ks : List Key) (vs : List V) → length vs ≡ length ks
      → remove_entry test (zip ks vs) ≡ zip (remove_key test ks) (remove vs (position_or_len test ks))
  remove_entry-zip test [] [] e = refl
  remove_entry-zip test [] (w ∷ vs) e = absurd (omega arith)
  remove_entry-zip test (k ∷ ks) [] e = absurd (omega arith)
  remove_entry-zip test (k ∷ ks) (w ∷ vs) e =
      remove_step (test k) k w ks (remove_key test ks) vs (remove_entry test (zip ks vs))
      (position_or_len test ks) (remove_entry-zip test ks vs (omega arith))

  -- Without a key and the value at its place, the pairs are without the key's pair.
  pub remove_entry-zip-there : (test : Key → Bool) (ks : List Key) (vs : List V) → length vs ≡ length ks → (i : ℕ)
      → position test ks ≡ Some i → remove_entry test (zip ks vs) ≡ zip (remove_key test ks) (remove vs i)
  remove_entry-zip-there test ks vs same i e = remove_entry-zip test ks vs same
      ∙ ap (λ n. zip (remove_key test ks) (remove vs n)) (place_of test ks i e).0

  -- Where no key passes, no pair is removed.
  pub remove_entry-zip-absent : (test : Key → Bool) (ks : List Key) (vs : List V) → list_any test ks ≡ false
      → remove_entry test (zip ks vs) ≡ zip ks vs
  remove_entry-zip-absent test [] vs e = refl
  remove_entry-zip-absent test (k ∷ ks) [] e = refl
  remove_entry-zip-absent test (k ∷ ks) (v ∷ vs) e =
      let parts = or_parts (test k) (list_any test ks) e in
      rw parts.0 (ap (λ l. (k, v) ∷ l) (remove_entry-zip-absent test ks vs parts.1))
