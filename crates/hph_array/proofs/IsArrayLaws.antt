-- The operations give arrays: keys stay distinct, and the next key stays above each int key.
use Rattle.std.proofs.Common.{◌≡◌, ℕ, ◌<◌, ◌≤◌, ◌^◌, Bool, true, false, cond, List, [], ◌∷◌, ◌++◌, refl, ap, sym}
use Rattle.std.proofs.Common.{arith, ◌∙◌, pos, max, inl, inr, subst, ◌⊎◌, ◌||◌}
use Rattle.std.specs.List.{list_any, IsDistinct, AllByRecursion}
use Rattle.std.specs.Map.{keys_of, remove_entry}
use Rattle.std.specs.Set.{remove_key}
use Rattle.std.proofs.lemmas.Map.{keys-set_value}
use Rattle.std.proofs.lemmas.Map.Keys.{IsDistinct-push, IsDistinct-head, IsDistinct-tail, IsDistinct-cons}
use Rattle.indexmap.specs.IndexSet.{insert_key}
use Rattle.hph_array.specs.declared.key.Key.{Key}
use Rattle.hph_array.specs.declared.key.Key.TheVariants.{Int}
use Rattle.hph_array.specs.Key.{key_eq, key_eq_equiv, number_after}
use Rattle.hph_array.specs.Array.{Array, IsArray, AreBelow, fallen, set, append, unset, replace, pop}
use Rattle.hph_array.proofs.NextKeyLaws.{AreBelow-push, AreBelow-rise, AreBelow-remove, AreBelow-front}
use Rattle.hph_array.proofs.NextKeyLaws.{AreBelow-fallen, fallen-at_most}
use Rattle.hph_array.proofs.MapSteps.{pop-push}
use Rattle.hph_array.proofs.ArrayLaws.{keys-set, append-set}

-- ---- distinct keys

-- A key that isn't there may come last.
inserted : (ks : List Key) (k : Key) (b : Bool) → list_any (key_eq k) ks ≡ b → IsDistinct key_eq ks
    → IsDistinct key_eq (cond b ks (ks ++ k ∷ []))
inserted ks k true e d = d
inserted ks k false e d = IsDistinct-push key_eq_equiv ks k d e

-- Distinct keys stay distinct at an insertion.
IsDistinct-insert_key : (ks : List Key) (k : Key) → IsDistinct key_eq ks → IsDistinct key_eq (insert_key key_eq ks k)
IsDistinct-insert_key ks k d = inserted ks k (list_any (key_eq k) ks) refl d

-- What holds of all keys holds of the first ones and of the last.
All-front : (P : Key → Type 0) (ks : List Key) (k : Key) → AllByRecursion P (ks ++ k ∷ []) → AllByRecursion P ks × P k
All-front P [] k all = (tt, all.0)
All-front P (x ∷ ks) k all = let rest = All-front P ks k all.1 in ((all.0, rest.0), rest.1)

-- Of two tests that fail neither holds.
neither : (b c : Bool) → b ≡ false → c ≡ false → (b || c) ≡ false
neither b c p q = ap (λ x. x || c) p ∙ q

-- Without the last of distinct keys they are distinct, and it isn't among them.
pub IsDistinct-front : (ks : List Key) (k : Key) → IsDistinct key_eq (ks ++ k ∷ [])
    → IsDistinct key_eq ks × (list_any (key_eq k) ks ≡ false)
unfolding IsDistinct
IsDistinct-front [] k d = (tt, refl)
IsDistinct-front (x ∷ ks) k d =
    let apart = All-front (λ y. key_eq x y ≡ false) ks k d.0 in
    let rest = IsDistinct-front ks k d.1 in
    ((apart.0, rest.0), neither (key_eq k x) (list_any (key_eq k) ks) (key_eq_equiv.symm k x ∙ apart.1) rest.1)

-- What holds of all keys holds without one.
All-remove_key : (P : Key → Type 0) (test : Key → Bool) (ks : List Key) → AllByRecursion P ks
    → AllByRecursion P (remove_key test ks)
All-remove_key P test [] all = tt
All-remove_key P test (x ∷ ks) all =
    elim (test x) as (λ b. AllByRecursion P (cond b ks (x ∷ remove_key test ks))) [
      | true ↦ all.1
      | false ↦ (all.0, All-remove_key P test ks all.1)
    ]

-- Distinct keys stay distinct without one.
IsDistinct-remove_key : (test : Key → Bool) (ks : List Key) → IsDistinct key_eq ks
    → IsDistinct key_eq (remove_key test ks)
IsDistinct-remove_key test [] d = d
IsDistinct-remove_key test (x ∷ ks) d =
    elim (test x) as (λ b. IsDistinct key_eq (cond b ks (x ∷ remove_key test ks))) [
      | true ↦ IsDistinct-tail key_eq x ks d
      | false ↦ IsDistinct-cons key_eq x _ (All-remove_key _ test ks (IsDistinct-head key_eq x ks d))
          (IsDistinct-remove_key test ks (IsDistinct-tail key_eq x ks d))
    ]

-- The keys after a set are below the larger next key.
put_below : (ks : List Key) (k : Key) (next : ℕ) (b : Bool) → AreBelow next ks
    → AreBelow (max next (number_after k)) (cond b ks (ks ++ k ∷ []))
put_below ks k next true below = AreBelow-rise next _ ks below (omega arith)
put_below ks k next false below = AreBelow-push _ ks k (AreBelow-rise next _ ks below (omega arith)) (omega arith)

-- ---- keys of pairs
module _ {V : Type 0} where
  -- The keys after a removal, at the first pair.
  removed : (b : Bool) (x : Key) (w : V) (es r : List (Key × V)) (ks : List Key) → keys_of r ≡ ks
      → keys_of (cond b es ((x, w) ∷ r)) ≡ cond b (keys_of es) (x ∷ ks)
  removed true x w es r ks e = refl
  removed false x w es r ks e = ap (λ l. x ∷ l) e

  -- The keys without a pair are those without its key.
  keys_of-remove_entry : (test : Key → Bool) (es : List (Key × V))
      → keys_of (remove_entry test es) ≡ remove_key test (keys_of es)
  keys_of-remove_entry test [] = refl
  keys_of-remove_entry test (e ∷ es) =
      removed (test e.0) e.0 e.1 es (remove_entry test es) _ (keys_of-remove_entry test es)

  -- The key of a pair put last is the last key.
  keys_of-push : (ps : List (Key × V)) (p : Key × V) → keys_of (ps ++ p ∷ []) ≡ keys_of ps ++ p.0 ∷ []
  keys_of-push [] p = refl
  keys_of-push (x ∷ ps) p = ap (λ ks. x.0 ∷ ks) (keys_of-push ps p)

  -- Pairs are none, or end with one.
  pub pairs_end : (ps : List (Key × V)) → (ps ≡ []) ⊎ ((qs : List (Key × V)) × (p : Key × V) × (ps ≡ qs ++ p ∷ []))
  pairs_end [] = inl refl
  pairs_end (x ∷ ps) =
      elim (pairs_end ps) [
        | inl e ↦ inr ([], x, ap (λ l. x ∷ l) e)
        | inr s ↦ inr (x ∷ s.0, s.1, ap (λ l. x ∷ l) s.2)
      ]

  -- ---- arrays
  -- A set gives an array, as each int is below 2^63.
  pub IsArray-set : (a : Array V) (k : Key) (v : V) → IsArray a → number_after k ≤ 2 ^ 63 → IsArray (set a k v)
  IsArray-set a k v is small =
      let keys = sym (keys-set a k v) in record {
        distinct = subst (λ ks. IsDistinct key_eq ks) keys (IsDistinct-insert_key (keys_of a.pairs) k is.distinct);
        below = subst (λ ks. AreBelow (max a.next_key (number_after k)) ks) keys
            (put_below (keys_of a.pairs) k a.next_key (list_any (key_eq k) (keys_of a.pairs)) is.below);
        within = omega (arith, is.within, small);
      }

  -- An append gives an array where there is a next key.
  pub IsArray-append : (a : Array V) (v : V) → IsArray a → a.next_key < 2 ^ 63 → IsArray (append a v)
  IsArray-append a v is below =
      subst (λ b. IsArray b) (sym (append-set a v is)) (IsArray-set a (Int (pos a.next_key)) v is (omega arith))

  -- An unset gives an array.
  pub IsArray-unset : (a : Array V) (k : Key) → IsArray a → IsArray (unset a k)
  IsArray-unset a k is =
      let keys = sym (keys_of-remove_entry (key_eq k) a.pairs) in record {
        distinct = subst (λ ks. IsDistinct key_eq ks) keys
            (IsDistinct-remove_key (key_eq k) (keys_of a.pairs) is.distinct);
        below = subst (λ ks. AreBelow a.next_key ks) keys
            (AreBelow-remove a.next_key (key_eq k) (keys_of a.pairs) is.below);
        within = is.within;
      }

  -- A replacement gives an array.
  pub IsArray-replace : (a : Array V) (k : Key) (v : V) → IsArray a → IsArray (replace a k v)
  IsArray-replace a k v is =
      let keys = sym (keys-set_value (key_eq k) a.pairs v) in record {
        distinct = subst (λ ks. IsDistinct key_eq ks) keys is.distinct;
        below = subst (λ ks. AreBelow a.next_key ks) keys is.below;
        within = is.within;
      }

  -- Without its last pair an array is one, with the next key that falls.
  popped : (ps : List (Key × V)) (p : Key × V) (next : ℕ)
      → IsArray {V = V} (record { pairs = ps ++ p ∷ []; next_key = next })
      → IsArray {V = V} (record { pairs = ps; next_key = fallen next p.0 })
  popped ps p next is =
      let parts = IsDistinct-front (keys_of ps) p.0
      (subst (λ ks. IsDistinct key_eq ks) (keys_of-push ps p) is.distinct) in record {
        distinct = parts.0;
        below = AreBelow-fallen next (keys_of ps) p.0
            (AreBelow-front next (keys_of ps) p.0 (subst (λ ks. AreBelow next ks) (keys_of-push ps p) is.below))
            parts.1;
        within = omega (arith, fallen-at_most next p.0, is.within);
      }

  -- A pop gives an array.
  pub IsArray-pop : (a : Array V) → IsArray a → IsArray (pop a)
  IsArray-pop a is =
      elim (pairs_end a.pairs) [
        | inl none ↦ subst (λ ps. IsArray {V = V} (pop (record { pairs = ps; next_key = a.next_key }))) (sym none)
            (subst (λ ps. IsArray {V = V} (record { pairs = ps; next_key = a.next_key })) none is)
        | inr end ↦ subst (λ ps. IsArray {V = V} (pop (record { pairs = ps; next_key = a.next_key }))) (sym end.2)
            (subst (λ b. IsArray b) (sym (pop-push end.0 end.1 a.next_key))
            (popped end.0 end.1 a.next_key
            (subst (λ ps. IsArray {V = V} (record { pairs = ps; next_key = a.next_key })) end.2 is)))
      ]
