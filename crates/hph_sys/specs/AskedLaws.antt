-- Laws of what is asked: the join of pairs, and pairs that are met. The laws of a system cite them.
use Rattle.std.proofs.Common.{◌≡◌, inl, inr, ℕ, true, List, [], ◌∷◌, refl, sym, ap, subst}
use Rattle.std.specs.Prelude.{◌==◌}
use Rattle.std.proofs.lemmas.Bool.{cases_Bool, cond-true, cond-false, eq-eqb, eqb-true}
use Rattle.hph_type.specs.Types.{PhpType}
use Rattle.hph_type.specs.Classes.{Parents}
use Rattle.hph_type.specs.Order.{Leq, IsOf, join}
use Rattle.hph_type.specs.Laws.{IsOrder, HasJoins}
use Rattle.hph_type.proofs.OrderLaws.{types_are_ordered, types_have_joins}
use Rattle.hph_sys.specs.Typings.{In, at}
use Rattle.hph_sys.specs.Shape.{Shape, asked_in, asked}
use Rattle.hph_sys.specs.Least.{IsMet}
use Rattle.hph_sys.specs.Laws.{AskedIsLeast, MetByAsked}

module _ (classes : Parents) where
  abbrev order : IsOrder classes
  order = types_are_ordered classes

  abbrev joins : HasJoins classes
  joins = types_have_joins classes

  -- What a pair asks is below what the pairs ask of its cell.
  pub asked-above : (pairs : List (ℕ × PhpType)) (pair : ℕ × PhpType) → In pair pairs
      → Leq classes pair.1 (asked_in classes pairs pair.0)
  asked-above [] pair stands = absurd stands
  asked-above (first ∷ pairs) pair (inl same) =
      let here : (first.0 == pair.0) ≡ true = eq-eqb _ _ (ap (λ p. p.0) (sym same)) in
      subst (Leq classes pair.1) (sym (cond-true (first.0 == pair.0) _ _ here))
      (subst (λ t. Leq classes t (join classes first.1 (asked_in classes pairs pair.0))) (ap (λ p. p.1) (sym same))
      (joins.above_left first.1 (asked_in classes pairs pair.0)))
  asked-above (first ∷ pairs) pair (inr later) =
      let rest = asked-above pairs pair later in
      elim (cases_Bool (first.0 == pair.0)) [
        | inl here ↦
            subst (Leq classes pair.1) (sym (cond-true (first.0 == pair.0) _ _ here))
            (order.transitive _ _ _ rest (joins.above_right first.1 (asked_in classes pairs pair.0)))
        | inr other ↦ subst (Leq classes pair.1) (sym (cond-false (first.0 == pair.0) _ _ other)) rest
      ]

  -- What is above each pair of a cell is above what the pairs ask of it.
  pub asked-least : (pairs : List (ℕ × PhpType)) (cell : ℕ) (upper : PhpType)
      → ((pair : ℕ × PhpType) → In pair pairs → pair.0 ≡ cell → Leq classes pair.1 upper)
      → Leq classes (asked_in classes pairs cell) upper
  asked-least [] cell upper each = order.none_least upper
  asked-least (first ∷ pairs) cell upper each =
      let rest = asked-least pairs cell upper (λ pair stands. each pair (inr stands)) in
      elim (cases_Bool (first.0 == cell)) [
        | inl here ↦
            subst (λ t. Leq classes t upper) (sym (cond-true (first.0 == cell) _ _ here))
            (joins.least first.1 (asked_in classes pairs cell) upper (each first (inl refl) (eqb-true _ _ here)) rest)
        | inr other ↦ subst (λ t. Leq classes t upper) (sym (cond-false (first.0 == cell) _ _ other)) rest
      ]

  -- What pairs of the tree's types ask is a type of the tree.
  pub asked-of : (pairs : List (ℕ × PhpType)) (cell : ℕ)
      → ((pair : ℕ × PhpType) → In pair pairs → IsOf classes pair.1) → IsOf classes (asked_in classes pairs cell)
  unfolding IsOf
  asked-of [] cell each = tt
  asked-of (first ∷ pairs) cell each =
      let rest = asked-of pairs cell (λ pair stands. each pair (inr stands)) in
      elim (cases_Bool (first.0 == cell)) [
        | inl here ↦
            subst (IsOf classes) (sym (cond-true (first.0 == cell) _ _ here))
            (joins.within first.1 (asked_in classes pairs cell) (each first (inl refl)) rest)
        | inr other ↦ subst (IsOf classes) (sym (cond-false (first.0 == cell) _ _ other)) rest
      ]

  -- Pairs that are each below what others ask of their cell ask no more than these.
  pub asked-rises : (lower upper : List (ℕ × PhpType))
      → ((pair : ℕ × PhpType) → In pair lower → Leq classes pair.1 (asked_in classes upper pair.0))
      → (cell : ℕ) → Leq classes (asked_in classes lower cell) (asked_in classes upper cell)
  asked-rises lower upper each cell =
      asked-least lower cell (asked_in classes upper cell) (λ pair stands same.
      subst (λ c. Leq classes pair.1 (asked_in classes upper c)) same (each pair stands))

  -- Pairs more ask no less.
  asked-cons : (first : ℕ × PhpType) (pairs : List (ℕ × PhpType)) (cell : ℕ)
      → Leq classes (asked_in classes pairs cell) (asked_in classes (first ∷ pairs) cell)
  asked-cons first pairs cell =
      elim (cases_Bool (first.0 == cell)) [
        | inl here ↦
            subst (Leq classes (asked_in classes pairs cell)) (sym (cond-true (first.0 == cell) _ _ here))
            (joins.above_right first.1 (asked_in classes pairs cell))
        | inr other ↦
            subst (Leq classes (asked_in classes pairs cell)) (sym (cond-false (first.0 == cell) _ _ other))
            (order.reflexive (asked_in classes pairs cell))
      ]

  -- Pairs of the same cells, of which each has a type below the other's.
  abbrev pub AreRising : List (ℕ × PhpType) → List (ℕ × PhpType) → Type 0
  AreRising [] upper = Unit {0}
  AreRising (p ∷ lower) [] = ⊥
  AreRising (p ∷ lower) (q ∷ upper) = (p.0 ≡ q.0) × Leq classes p.1 q.1 × AreRising lower upper

  -- Each of them is below what the others ask.
  rising-each : (lower upper : List (ℕ × PhpType)) → AreRising lower upper → (pair : ℕ × PhpType) → In pair lower
      → Leq classes pair.1 (asked_in classes upper pair.0)
  rising-each [] upper rise pair stands = absurd stands
  rising-each (p ∷ lower) [] rise pair stands = absurd rise
  rising-each (p ∷ lower) (q ∷ upper) rise pair (inl same) =
      subst (λ (x : ℕ × PhpType). Leq classes x.1 (asked_in classes (q ∷ upper) x.0)) (sym same)
      (subst (λ c. Leq classes p.1 (asked_in classes (q ∷ upper) c)) (sym rise.0)
      (order.transitive _ _ _ rise.1 (asked-above (q ∷ upper) q (inl refl))))
  rising-each (p ∷ lower) (q ∷ upper) rise pair (inr later) =
      order.transitive _ _ _ (rising-each lower upper rise.2 pair later) (asked-cons q upper pair.0)

  -- So what they ask rises.
  pub asked-pairwise : (lower upper : List (ℕ × PhpType)) → AreRising lower upper → (cell : ℕ)
      → Leq classes (asked_in classes lower cell) (asked_in classes upper cell)
  asked-pairwise lower upper rise = asked-rises lower upper (rising-each lower upper rise)

  pub asked_is_least : (pairs : List (ℕ × PhpType)) → AskedIsLeast classes pairs
  asked_is_least pairs = record { above = asked-above pairs; least = asked-least pairs }

module _ (sys : Shape) where
  -- What is met is above what is asked.
  pub met-asked : (typing : List PhpType) (scope : ℕ) → IsMet sys typing scope
      → (cell : ℕ) → Leq sys.classes (asked sys scope typing cell) (at typing cell)
  unfolding asked
  met-asked typing scope met cell =
      asked-least sys.classes (sys.contrib scope typing) cell (at typing cell) (λ pair stands same.
      subst (λ c. Leq sys.classes pair.1 (at typing c)) same (met pair stands))

  -- Pairs are met where what is asked of their cells is below the cells' types.
  pub asked-met : (typing : List PhpType) (scope : ℕ)
      → ((pair : ℕ × PhpType) → In pair (sys.contrib scope typing)
      → Leq sys.classes (asked sys scope typing pair.0) (at typing pair.0))
      → IsMet sys typing scope
  unfolding asked
  asked-met typing scope low pair stands =
      (types_are_ordered sys.classes).transitive _ _ _ (asked-above sys.classes (sys.contrib scope typing) pair stands)
      (low pair stands)

  pub met_by_asked : (typing : List PhpType) (scope : ℕ) → MetByAsked sys typing scope
  met_by_asked typing scope = (met-asked typing scope, λ low. asked-met typing scope (λ pair _. low pair.0))
