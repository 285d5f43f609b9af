-- What the operations on arrays do to look-ups, to the order and to the next key.
use Rattle.std.proofs.Common.{◌≡◌, ℕ, Bool, true, false, cond, ◌||◌, List, [], ◌∷◌}
use Rattle.std.proofs.Common.{◌++◌, Option, None, Some, refl, ap, sym, arith, ◌∙◌, pos, max, true≢false}
use Rattle.std.specs.List.{list_any}
use Rattle.std.specs.Map.{keys_of, lookup, update}
use Rattle.std.proofs.lemmas.Map.{lookup-remove_entry}
use Rattle.indexmap.specs.IndexSet.{insert_key}
use Rattle.hph_array.specs.declared.key.Key.{Key}
use Rattle.hph_array.specs.declared.key.Key.TheVariants.{Int}
use Rattle.hph_array.specs.Key.{key_eq, key_eq_equiv}
use Rattle.hph_array.specs.Array.{Array, IsArray, get, put, set, append, unset}
use Rattle.hph_array.proofs.NextKeyLaws.{next_key_is_new}
use Rattle.hph_array.proofs.MapSteps.{same_array}

-- Two keys that are equal to a third are equal.
key_eq-both : (k x q : Key) → key_eq k q ≡ true → key_eq q x ≡ true → key_eq k x ≡ true
key_eq-both k x q e f = key_eq_equiv.congr k q x e ∙ f

-- The larger of two numbers isn't raised by one of them.
max_max : (m n : ℕ) → max (max m n) n ≡ max m n
max_max m n = omega arith

module _ {V : Type 0} where
  -- ---- look-ups

  -- Two tests that don't both hold may change places.
  first : (b c : Bool) (x y r : Option V) → (c ≡ true → b ≡ true → ⊥) → cond b x (cond c y r) ≡ cond c y (cond b x r)
  first true true x y r apart = absurd (apart refl refl)
  first true false x y r apart = refl
  first false c x y r apart = refl

  -- Of two choices by one test the first hides the second.
  hidden : (b c : Bool) (x y r : Option V) → b ≡ c → cond b x r ≡ cond c x (cond b y r)
  hidden true true x y r e = refl
  hidden true false x y r e = absurd (true≢false e)
  hidden false true x y r e = absurd (true≢false (sym e))
  hidden false false x y r e = refl

  -- A look-up after a put, at the first pair.
  get_here : (k x q : Key) (v w : V) (es : List (Key × V)) (r : List (Key × V)) (b : Bool) → key_eq k x ≡ b
      → lookup (key_eq q) r ≡ cond (key_eq k q) (Some v) (lookup (key_eq q) es)
      → lookup (key_eq q) (cond b ((x, v) ∷ es) ((x, w) ∷ r)) ≡ cond (key_eq k q) (Some v)
      (lookup (key_eq q) ((x, w) ∷ es))
  get_here k x q v w es r true e ih =
      hidden (key_eq q x) (key_eq k q) (Some v) (Some w) (lookup (key_eq q) es)
      (key_eq_equiv.symm q x ∙ sym (key_eq_equiv.congr k x q e))
  get_here k x q v w es r false e ih =
      ap (λ o. cond (key_eq q x) (Some w) o) ih
      ∙ first (key_eq q x) (key_eq k q) (Some w) (Some v) (lookup (key_eq q) es)
      (λ kq qx. true≢false (sym (key_eq-both k x q kq qx) ∙ e))

  -- A look-up after a put gives the new value at its key.
  lookup-put : (es : List (Key × V)) (k : Key) (v : V) (q : Key)
      → lookup (key_eq q) (put es k v) ≡ cond (key_eq k q) (Some v) (lookup (key_eq q) es)
  lookup-put [] k v q = ap (λ b. cond b (Some v) None) (key_eq_equiv.symm q k)
  lookup-put (e ∷ es) k v q = get_here k e.0 q v e.1 es (put es k v) (key_eq k e.0) refl (lookup-put es k v q)

  -- A set gives its value at its key, and leaves the values of the others.
  pub get-set : (a : Array V) (k : Key) (v : V) (q : Key) → get (set a k v) q ≡ update key_eq (get a) k (Some v) q
  get-set a k v q = lookup-put a.pairs k v q

  -- An unset takes the value of its key, and leaves the values of the others.
  pub get-unset : (a : Array V) (k : Key) (q : Key) → IsArray a → get (unset a k) q ≡ update key_eq (get a) k None q
  get-unset a k q is = lookup-remove_entry key_eq_equiv (key_eq k) (λ x y e. key_eq_equiv.congr k x y e) q a.pairs
      is.distinct

  -- ---- the order

  -- The keys after a put, at the first pair.
  keys_here : (k x : Key) (v w : V) (es r : List (Key × V)) (b there : Bool)
      → keys_of r ≡ cond there (keys_of es) (keys_of es ++ k ∷ [])
      → keys_of (cond b ((x, v) ∷ es) ((x, w) ∷ r)) ≡ cond (b || there) (x ∷ keys_of es) (x ∷ keys_of es ++ k ∷ [])
  keys_here k x v w es r true there ih = refl
  keys_here k x v w es r false true ih = ap (λ ks. x ∷ ks) ih
  keys_here k x v w es r false false ih = ap (λ ks. x ∷ ks) ih

  -- A put leaves the keys as an insertion of its key does.
  keys-put : (es : List (Key × V)) (k : Key) (v : V) → keys_of (put es k v) ≡ insert_key key_eq (keys_of es) k
  keys-put [] k v = refl
  keys-put (e ∷ es) k v =
      keys_here k e.0 v e.1 es (put es k v) (key_eq k e.0) (list_any (key_eq k) (keys_of es)) (keys-put es k v)

  -- A set keeps the keys in their order: its key stays where it is, or goes last.
  pub keys-set : (a : Array V) (k : Key) (v : V) → keys_of (set a k v).pairs ≡ insert_key key_eq (keys_of a.pairs) k
  keys-set a k v = keys-put a.pairs k v

  -- A put of a new key goes past the first pair.
  later : (k x : Key) (v w : V) (es : List (Key × V)) (r : List (Key × V)) (b : Bool)
      → (b || list_any (key_eq k) (keys_of es)) ≡ false
      → (list_any (key_eq k) (keys_of es) ≡ false → r ≡ es ++ (k, v) ∷ [])
      → cond b ((x, v) ∷ es) ((x, w) ∷ r) ≡ (x, w) ∷ (es ++ (k, v) ∷ [])
  later k x v w es r true e ih = absurd (true≢false e)
  later k x v w es r false e ih = ap (λ l. (x, w) ∷ l) (ih e)

  -- A put of a new key puts its pair last.
  put-new : (es : List (Key × V)) (k : Key) (v : V) → list_any (key_eq k) (keys_of es) ≡ false
      → put es k v ≡ es ++ (k, v) ∷ []
  put-new [] k v new = refl
  put-new (e ∷ es) k v new = later k e.0 v e.1 es (put es k v) (key_eq k e.0) new (put-new es k v)

  -- An append is a set at the next key.
  pub append-set : (a : Array V) (v : V) → IsArray a → append a v ≡ set a (Int (pos a.next_key)) v
  append-set a v is =
      same_array _ _ _ _ (sym
      (put-new a.pairs (Int (pos a.next_key)) v (next_key_is_new a.next_key (keys_of a.pairs) is.below)))
      (omega arith)

  -- A second put at a key, at the first pair.
  again : (k x : Key) (v w u : V) (es r : List (Key × V)) (b : Bool) → key_eq k x ≡ b → put r k w ≡ put es k w
      → put (cond b ((x, v) ∷ es) ((x, u) ∷ r)) k w ≡ cond b ((x, w) ∷ es) ((x, u) ∷ put es k w)
  again k x v w u es r true e ih = ap (λ c. cond c ((x, w) ∷ es) ((x, v) ∷ put es k w)) e
  again k x v w u es r false e ih = ap (λ c. cond c ((x, w) ∷ r) ((x, u) ∷ put r k w)) e ∙ ap (λ l. (x, u) ∷ l) ih

  -- Of two puts at one key the second counts.
  put-put : (es : List (Key × V)) (k : Key) (v w : V) → put (put es k v) k w ≡ put es k w
  put-put [] k v w = ap (λ b. cond b ((k, w) ∷ []) ((k, v) ∷ (k, w) ∷ [])) (key_eq_equiv.refl k)
  put-put (e ∷ es) k v w = again k e.0 v w e.1 es (put es k v) (key_eq k e.0) refl (put-put es k v w)

  -- Of two sets at one key the second counts.
  pub set-set : (a : Array V) (k : Key) (v w : V) → set (set a k v) k w ≡ set a k w
  set-set a k v w = same_array _ _ _ _ (put-put a.pairs k v w) (max_max a.next_key _)
