-- A search for the first of a list that something doesn't hold of, item by item, by what it makes of each.
use Rattle.std.proofs.Common.{◌≡◌, ◌∙◌, ℕ, zero, suc, ◌+◌, ◌<◌, List, [], ◌∷◌, ◌++◌, Some, length, map, take, get_or, refl, sym, ap, subst, arith}
use Rattle.std.specs.Prelude.{slice_get}
use Rattle.std.specs.List.{AllByRecursion}
use Rattle.std.specs.Option.{option_map}
use Rattle.std.proofs.lemmas.List.{take_more}
use Rattle.std.proofs.lemmas.Option.{slice_get-get_or, slice_get-map}
use Rattle.hph_winstance.specs.Firsts.{FailsFirst}

module _ {X : Type 0} (P : X → Type 0) where
  -- What holds of each of both lists holds of each of the first, and of the second.
  pub all_first : (xs ys : List X) → AllByRecursion P (xs ++ ys) → AllByRecursion P xs
  all_first [] ys all = tt
  all_first (x ∷ xs) ys all = (all.0, all_first xs ys all.1)

  pub all_second : (xs ys : List X) → AllByRecursion P (xs ++ ys) → AllByRecursion P ys
  all_second [] ys all = all
  all_second (x ∷ xs) ys all = all_second xs ys all.1

  module _ {Y : Type 0} (made : Y → X) (ys : List Y) where
    take_made : (k : ℕ) → take k (map made ys) ≡ map made (take k ys)
    take_made k = by k ys
      where
        by : (k : ℕ) (ys : List Y) → take k (map made ys) ≡ map made (take k ys)
        by zero ys = refl
        by (suc k) [] = refl
        by (suc k) (y ∷ ys) = ap (λ l. made y ∷ l) (by k ys)

    -- The item at a place, if all before it pass.
    pub fails_here : (all : List Y) (k : ℕ) (y : Y) → all ≡ ys → AllByRecursion P (map made (take k all)) → k < length all →
        y ≡ get_or all k y → (P (made y) → ⊥) → FailsFirst P (map made ys) k
    fails_here all k y same before within at fails =
        let there : slice_get all k ≡ Some y = slice_get-get_or all k y within ∙ ap Some (sym at) in
        record {
          item = made y;
          there = slice_get-map made ys k ∙ ap (λ all. option_map made (slice_get all k)) (sym same) ∙ ap (option_map made) there;
          fails = fails;
          before = subst (AllByRecursion P) (sym (take_made k)) (subst (λ all. AllByRecursion P (map made (take k all))) same before);
        }

  module _ {Y : Type 0} (made : Y → X) where
    all_one : (ys : List Y) (y : Y) → AllByRecursion P (map made ys) → P (made y) → AllByRecursion P (map made (ys ++ y ∷ []))
    all_one [] y all holds = (holds, tt)
    all_one (z ∷ ys) y all holds = (all.0, all_one ys y all.1 holds)

    -- One more passes.
    pub one_more : (ys : List Y) (k : ℕ) (y : Y) → AllByRecursion P (map made (take k ys)) → k < length ys → y ≡ get_or ys k y →
        P (made y) → AllByRecursion P (map made (take (k + 1) ys))
    one_more ys k y before within at holds =
        let longer : take k ys ++ y ∷ [] ≡ take (k + 1) ys = ap (λ y. take k ys ++ y ∷ []) at ∙ sym (take_more ys k y within) in
        subst (λ ys. AllByRecursion P (map made ys)) longer (all_one (take k ys) y before holds)

    -- The one at a place passes where all do.
    pub holds_at : (ys : List Y) (k : ℕ) (y : Y) → AllByRecursion P (map made ys) → k < length ys → y ≡ get_or ys k y → P (made y)
    holds_at [] k y all within at = absurd (omega (arith, within))
    holds_at (z ∷ ys) zero y all within at = subst (λ y. P (made y)) (sym at) all.0
    holds_at (z ∷ ys) (suc k) y all within at = holds_at ys k y all.1 (omega (arith, within)) at
