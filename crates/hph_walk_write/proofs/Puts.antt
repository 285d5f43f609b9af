-- Values that are put where others were.
use Rattle.std.proofs.Common.{arith, sym, Some, ◌≡◌, ◌∙◌, Bool, true, false, cond, List, [], ◌∷◌, refl, ap}
use Rattle.std.specs.Map.{set_value, lookup, keys_of}
use Rattle.std.specs.Option.{is_some}
use Rattle.std.specs.List.{list_any}
use Rattle.std.proofs.lemmas.Map.Made.{is_some-lookup}
use Rattle.hph_array.proofs.NextKeyLaws.{AreBelow-there}
use Rattle.hph_array.specs.declared.key.Key.{Key}
use Rattle.hph_array.specs.Key.{key_eq}
use Rattle.hph_array.specs.Array.{Array, IsArray, get, put, set, replace}
use Rattle.hph_array.proofs.MapSteps.{same_array}

module _ {V : Type 0} where
  -- A put at the first pair, where another value was put before.
  again : (k x : Key) (v w u : V) (es r : List (Key × V)) (b : Bool) → key_eq k x ≡ b → put r k w ≡ put es k w
      → put (cond b ((x, v) ∷ es) ((x, u) ∷ r)) k w ≡ cond b ((x, w) ∷ es) ((x, u) ∷ put es k w)
  again k x v w u es r true e ih = ap (λ c. cond c ((x, w) ∷ es) ((x, v) ∷ put es k w)) e
  again k x v w u es r false e ih = ap (λ c. cond c ((x, w) ∷ r) ((x, u) ∷ put r k w)) e ∙ ap (λ l. (x, u) ∷ l) ih

  put-replaced : (es : List (Key × V)) (k : Key) (v w : V) → put (set_value (key_eq k) es v) k w ≡ put es k w
  put-replaced [] k v w = refl
  put-replaced (e ∷ es) k v w = again k e.0 v w e.1 es (set_value (key_eq k) es v) (key_eq k e.0) refl (put-replaced es k v w)

  -- A set where another value was put in place is as if it hadn't been.
  pub set-replaced : (a : Array V) (k : Key) (v w : V) → set (replace a k v) k w ≡ set a k w
  set-replaced a k v w = same_array _ _ _ _ (put-replaced a.pairs k v w) refl

  -- A value that is there may be put in again.
  chosen_same : (b : Bool) (e : Key × V) (es : List (Key × V)) (k : Key) (v : V) → cond b (Some e.1) (lookup (key_eq k) es) ≡ Some v
      → (lookup (key_eq k) es ≡ Some v → put es k v ≡ es) → cond b ((e.0, v) ∷ es) (e ∷ put es k v) ≡ e ∷ es
  chosen_same true e es k v is rest = let same : e.1 ≡ v = cc in ap (λ w. (e.0, w) ∷ es) (sym same)
  chosen_same false e es k v is rest = ap (λ l. e ∷ l) (rest is)

  put-same : (es : List (Key × V)) (k : Key) (v : V) → lookup (key_eq k) es ≡ Some v → put es k v ≡ es
  put-same [] k v is = let no : ⊥ = cc in absurd no
  put-same (e ∷ es) k v is = chosen_same (key_eq k e.0) e es k v is (put-same es k v)

  pub set-same : (a : Array V) (k : Key) (v : V) → IsArray a → get a k ≡ Some v → set a k v ≡ a
  set-same a k v array is =
      let there : list_any (key_eq k) (keys_of a.pairs) ≡ true = sym (is_some-lookup (key_eq k) a.pairs) ∙ ap is_some is in
      same_array _ _ _ _ (put-same a.pairs k v is) (omega (arith, AreBelow-there a.next_key (keys_of a.pairs) k array.below there))
