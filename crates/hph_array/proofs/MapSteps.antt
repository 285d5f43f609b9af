-- The array of a map after a call.
use Rattle.std.proofs.Common.{◌≡◌, ℕ, ◌+◌, true, false, subst, List, [], ◌∷◌, ◌++◌, length, slice_set, remove}
use Rattle.std.proofs.Common.{None, Some, refl, ap, sym, arith, ◌∙◌, pos, max}
use Rattle.std.specs.List.{zip, position, list_any}
use Rattle.std.specs.Option.{option_map_or}
use Rattle.std.specs.Set.{remove_key}
use Rattle.hph_array.specs.declared.key.Key.{Key}
use Rattle.hph_array.specs.declared.key.Key.TheVariants.{Int}
use Rattle.hph_array.specs.Key.{key_eq, number_after}
use Rattle.hph_array.specs.Array.{Array, AreBelow, MakeArray, IsArray, set, append, unset, replace, last, front, pop}
use Rattle.hph_array.specs.Array.{fallen}
use Rattle.hph_array.proofs.Places.{put-zip-there, put-zip-absent, remove_entry-zip-there, remove_entry-zip-absent}
use Rattle.hph_array.proofs.Places.{set_value-zip-there, set_value-zip-absent, zip-push, keys_of-zip}
use Rattle.hph_array.proofs.NextKeyLaws.{AreBelow-there}
use Rattle.std.specs.List.{IsDistinct}

module _ {V : Type 0} where
  -- Arrays of equal parts are equal.
  pub same_array : (ps qs : List (Key × V)) (m n : ℕ) → ps ≡ qs → m ≡ n
      → ◌≡◌ {A = Array V} (record { pairs = ps; next_key = m }) (record { pairs = qs; next_key = n })
  same_array ps qs m n p q = λ i. record { pairs = p i; next_key = q i }

  -- The last of pairs that end with this one.
  pub last-push : (ps : List (Key × V)) (p : Key × V) → last (ps ++ p ∷ []) ≡ Some p
  last-push [] p = refl
  last-push (x ∷ []) p = refl
  last-push (x ∷ y ∷ ps) p = last-push (y ∷ ps) p

  -- All but the last of pairs that end with this one.
  pub front-push : (ps : List (Key × V)) (p : Key × V) → front (ps ++ p ∷ []) ≡ ps
  front-push [] p = refl
  front-push (x ∷ []) p = refl
  front-push (x ∷ y ∷ ps) p = ap (λ l. x ∷ l) (front-push (y ∷ ps) p)

  -- Popped from an array that ends with a pair.
  pub pop-push : (ps : List (Key × V)) (p : Key × V) (next : ℕ)
      → pop (record { pairs = ps ++ p ∷ []; next_key = next }) ≡ record { pairs = ps; next_key = fallen next p.0 }
  pop-push ps p next = same_array _ _ _ _ (front-push ps p)
      (ap (λ o. option_map_or (λ pair. fallen next pair.0) o next) (last-push ps p))

  -- An array without keys is as it was after a pop.
  pub pop-none : (js ks : List Key) (vs : List V) (next : ℕ) → js ≡ [] → ks ≡ []
      → ◌≡◌ {A = Array V} (record { pairs = zip js vs; next_key = next })
      (pop (record { pairs = zip ks vs; next_key = next }))
  pop-none js ks vs next e f = rw (e, f) refl

  -- Distinct keys make an array.
  pub whole-IsArray : (ks : List Key) (vs : List V) (next : ℕ) → MakeArray ks vs next → IsDistinct key_eq ks
      → IsArray {V = V} (record { pairs = zip ks vs; next_key = next })
  whole-IsArray ks vs next make distinct =
      let keys = sym (keys_of-zip ks vs make.same_length) in record {
        distinct = subst (λ l. IsDistinct key_eq l) keys distinct;
        below = subst (λ l. AreBelow next l) keys make.below;
        within = make.within;
      }

  module _ (ks : List Key) (vs : List V) (next : ℕ) (same : length vs ≡ length ks) where
    -- the array of the keys and the values at the same places
    abbrev whole : Array V
    whole = record { pairs = zip ks vs; next_key = next }

    module _ (k : Key) where
      -- A value in the place of a key's is the array after a set.
      pub set-there : AreBelow next ks → (i : ℕ) (v : V) → position (key_eq k) ks ≡ Some i
          → list_any (key_eq k) ks ≡ true
          → ◌≡◌ {A = Array V} (record { pairs = zip ks (slice_set vs i v); next_key = next }) (set whole k v)
      set-there b i v e there =
          same_array _ _ _ _ (sym (put-zip-there k v ks vs same i e))
          (omega (arith, AreBelow-there next ks k b there))

      -- A new key and its value last are the array after a set.
      pub set-absent : (v : V) → position (key_eq k) ks ≡ None
          → ◌≡◌ {A = Array V} (record {
            pairs = zip (ks ++ k ∷ []) (vs ++ v ∷ []);
            next_key =
                max next (number_after k);
          }) (set whole k v)
      set-absent v e = same_array _ _ _ _ (sym (put-zip-absent k v ks vs same e)) refl

      -- Without a key and the value at its place it is the array after an unset.
      pub unset-there : (i : ℕ) → position (key_eq k) ks ≡ Some i
          → ◌≡◌ {A = Array V} (record { pairs = zip (remove_key (key_eq k) ks) (remove vs i); next_key = next })
          (unset whole k)
      unset-there i e = same_array _ _ _ _ (sym (remove_entry-zip-there (key_eq k) ks vs same i e)) refl

      -- Where the key isn't there an unset changes nothing.
      pub unset-absent : (js : List Key) → js ≡ ks → list_any (key_eq k) ks ≡ false
          → ◌≡◌ {A = Array V} (record { pairs = zip js vs; next_key = next }) (unset whole k)
      unset-absent js e absent =
          same_array _ _ _ _ (ap (λ l. zip l vs) e ∙ sym (remove_entry-zip-absent (key_eq k) ks vs absent)) refl

      -- A value in the place of a key's is the array after a replacement.
      pub replace-there : (i : ℕ) (v : V) → position (key_eq k) ks ≡ Some i
          → ◌≡◌ {A = Array V} (record { pairs = zip ks (slice_set vs i v); next_key = next }) (replace whole k v)
      replace-there i v e = same_array _ _ _ _ (sym (set_value-zip-there (key_eq k) v ks vs same i e)) refl

      -- Where the key isn't there a replacement changes nothing.
      pub replace-absent : (v : V) → list_any (key_eq k) ks ≡ false → whole ≡ replace whole k v
      replace-absent v absent = same_array _ _ _ _ (sym (set_value-zip-absent (key_eq k) v ks vs absent)) refl

      -- The next key and a value last are the array after an append.
      pub append-whole : (v : V) → k ≡ Int (pos next)
          → ◌≡◌ {A = Array V} (record { pairs = zip (ks ++ k ∷ []) (vs ++ v ∷ []); next_key = next + 1 })
          (append whole v)
      append-whole v e = same_array _ _ _ _ (zip-push ks vs k v same ∙ ap (λ x. zip ks vs ++ (x, v) ∷ []) e) refl

      -- Without the last key and value it is the array after a pop.
      pub pop-whole : (v : V)
          → ◌≡◌ {A = Array V} (record { pairs = zip ks vs; next_key = fallen next k })
          (pop (record { pairs = zip (ks ++ k ∷ []) (vs ++ v ∷ []); next_key = next }))
      pop-whole v = sym (pop-push (zip ks vs) (k, v) next)
          ∙ ap (λ l. pop (record { pairs = l; next_key = next })) (sym (zip-push ks vs k v same))

      -- The last key and value are the last pair.
      pub last-whole : (v : V) → last (zip (ks ++ k ∷ []) (vs ++ v ∷ [])) ≡ Some (k, v)
      last-whole v = ap last (zip-push ks vs k v same) ∙ last-push (zip ks vs) (k, v)
