-- A value in an array has at most the measure of the array, so a recursion on the values ends.
use Rattle.std.proofs.Common.{◌≡◌, ℕ, zero, suc, ◌≤◌, Bool, true, false, cond, List, [], ◌∷◌, slice_get, Option}
use Rattle.std.proofs.Common.{Some, ap, arith, max}
use Rattle.std.specs.Map.{values_of, lookup}
use denote.Param.Weighed.{most}
use Rattle.hph_array.specs.declared.key.Key.{Key}
use Rattle.hph_array.specs.Key.{key_eq}
use Rattle.hph_array.specs.Array.{Array, get}

module _ {V : Type 0} (measure : V → ℕ) where
  -- The value of a pair at a place.
  pub measure-slice_get : (pairs : List (Key × V)) (i : ℕ) (k : Key) (v : V) → slice_get pairs i ≡ Some (k, v)
      → measure v ≤ most measure (values_of pairs)
  measure-slice_get [] i k v e = grind arith
  measure-slice_get (p ∷ pairs) zero k v e =
      let here : p.1 ≡ v = grind arith in
      omega (arith, ap measure here)
  measure-slice_get (p ∷ pairs) (suc i) k v e = omega (arith, measure-slice_get pairs i k v e)

  -- The value of a look-up, at the first pair.
  found : (b : Bool) (u v : V) (r : Option V) (n : ℕ) → cond b (Some u) r ≡ Some v → (r ≡ Some v → measure v ≤ n)
      → measure v ≤ max (measure u) n
  found true u v r n e rest =
      let here : u ≡ v = grind arith in
      omega (arith, ap measure here)
  found false u v r n e rest = omega (arith, rest e)

  -- The value of a look-up.
  measure-lookup : (test : Key → Bool) (pairs : List (Key × V)) (v : V) → lookup test pairs ≡ Some v
      → measure v ≤ most measure (values_of pairs)
  measure-lookup test [] v e = grind arith
  measure-lookup test (p ∷ pairs) v e =
      found (test p.0) p.1 v (lookup test pairs) (most measure (values_of pairs)) e (measure-lookup test pairs v)

  -- The value at a key.
  pub measure-get : (a : Array V) (k : Key) (v : V) → get a k ≡ Some v → measure v ≤ most measure (values_of a.pairs)
  measure-get a k v e = measure-lookup (key_eq k) a.pairs v e
