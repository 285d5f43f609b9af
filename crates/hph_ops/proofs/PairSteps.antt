-- Unions, pair by pair.
use Rattle.std.proofs.Common.{◌≡◌, ℕ, suc, zero, ◌+◌, ◌≤◌, List, [], ◌∷◌, length, drop, fold, ap, arith, Some}
use Rattle.std.specs.Prelude.{slice_get}
use Rattle.std.proofs.Math.ListN.{drop_of_length-le}
use Rattle.hph_array.specs.declared.key.Key.{Key}
use Rattle.hph_php.specs.Arrays.{Array, with_new}

module _ {V : Type 0} where
  drop_at : (pairs : List (Key × V)) (i : ℕ) (p : Key × V) → slice_get pairs i ≡ Some p → drop i pairs ≡ p ∷ drop (i + 1) pairs
  drop_at [] i p e = let no : ⊥ = cc in absurd no
  drop_at (q ∷ pairs) zero p e = let same : q ≡ p = cc in ap (λ r. r ∷ pairs) same
  drop_at (q ∷ pairs) (suc i) p e =
      let more : suc i + 1 ≡ suc (i + 1) = omega arith in
      rw more (drop_at pairs i p e)

  -- a pair that stands next is added next
  pub added_next : (a : Array V) (pairs : List (Key × V)) (i : ℕ) (p : Key × V) → slice_get pairs i ≡ Some p
      → fold with_new a (drop i pairs) ≡ fold with_new (with_new a p) (drop (i + 1) pairs)
  added_next a pairs i p e = ap (λ l. fold with_new a l) (drop_at pairs i p e)

  pub none_left : (a : Array V) (pairs : List (Key × V)) (i : ℕ) → length pairs ≤ i → fold with_new a (drop i pairs) ≡ a
  none_left a pairs i past = ap (λ l. fold with_new a l) (drop_of_length-le pairs past)
