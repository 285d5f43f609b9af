-- There is a least typing of every system: types rise from the empty one while a pair isn't met. They stay below every
-- solution, and their ranks are bounded.
use Rattle.std.proofs.Common.{◌≡◌, ◌<◌, ◌≤◌, ◌+◌, ◌*◌, ◌⊎◌, ◌∙◌, inl, inr, ℕ, zero, suc, Bool, true, false, List, length, sym, subst, arith, true≢false}
use Rattle.std.specs.Prelude.{sum_by, replicate}
use Rattle.std.proofs.lemmas.Bool.{cases_Bool, cases_lt}
use Rattle.std.proofs.lemmas.List.{get_or-replicate, get_or_past, get_or_default, length-replicate}
use Rattle.std.proofs.lemmas.List.Sums.{sum_by-set, sum_by-le}
use Rattle.hph_type.specs.Types.{PhpType, none, same_type, same_type_decides}
use Rattle.hph_type.specs.Classes.{height}
use Rattle.hph_type.specs.Order.{Leq, IsOf, join}
use Rattle.hph_type.specs.Rank.{rank}
use Rattle.hph_type.specs.Laws.{IsOrder, HasJoins, HasRanks}
use Rattle.hph_type.proofs.OrderLaws.{types_are_ordered, types_have_joins}
use Rattle.hph_type.proofs.RankLaws.{types_have_ranks}
use Rattle.hph_sys.specs.Typings.{at, Below}
use Rattle.hph_sys.specs.Shape.{Shape, IsTyping, asked}
use Rattle.hph_sys.specs.Least.{IsSolution, IsLeast}
use Rattle.hph_sys.specs.Lawful.{Lawful}
use Rattle.hph_sys.specs.AskedLaws.{asked-of, met-asked, asked-met}
use Rattle.hph_sys.proofs.LeastLaws.{with_cell, with-cell, typing-with}

-- A test of the numbers below one holds of all, or fails at some.
all_or_some : (test : ℕ → Bool) (n : ℕ)
    → ((k : ℕ) → k < n → test k ≡ true) ⊎ ((k : ℕ) × (k < n) × (test k ≡ false))
all_or_some test zero = inl (λ k less. absurd (omega arith))
all_or_some test (suc n) =
    elim (all_or_some test n) [
      | inl all ↦ elim (cases_Bool (test n)) [
        | inl passes ↦ inl (λ k less. elim (cases_lt k n) [
          | inl lower ↦ all k lower
          | inr high ↦ let last : n ≡ k = omega arith in subst (λ x. test x ≡ true) last passes
        ])
        | inr unmet ↦ inr (n, omega arith, unmet)
      ]
      | inr fails ↦ inr (fails.0, omega (arith, fails.1), fails.2)
    ]

-- The same of pairs of numbers.
all_or_some_pair : (test : ℕ → ℕ → Bool) (n m : ℕ)
    → ((k : ℕ) → k < n → (j : ℕ) → j < m → test k j ≡ true)
    ⊎ ((k : ℕ) × (k < n) × ((j : ℕ) × (j < m) × (test k j ≡ false)))
all_or_some_pair test zero m = inl (λ k less. absurd (omega arith))
all_or_some_pair test (suc n) m =
    elim (all_or_some (test n) m) [
      | inl row ↦ elim (all_or_some_pair test n m) [
        | inl all ↦ inl (λ k less j within. elim (cases_lt k n) [
          | inl lower ↦ all k lower j within
          | inr high ↦ let last : n ≡ k = omega arith in subst (λ x. test x j ≡ true) last (row j within)
        ])
        | inr fails ↦ inr (fails.0, omega (arith, fails.1), fails.2)
      ]
      | inr fails ↦ inr (n, omega arith, fails)
    ]

module _ (sys : Shape) (lawful : Lawful sys) where
  abbrev order : IsOrder sys.classes
  order = types_are_ordered sys.classes

  abbrev joins : HasJoins sys.classes
  joins = types_have_joins sys.classes

  abbrev ranks : HasRanks sys.classes
  ranks = types_have_ranks sys.classes

  -- A typing that is below every solution.
  record IsLow (typing : List PhpType) : Type 0 where
    is_typing : IsTyping sys typing
    below : (solution : List PhpType) → IsSolution sys solution → Below sys.classes typing solution

  -- the ranks of all cells together
  abbrev ranks_of : List PhpType → ℕ
  ranks_of typing = sum_by (rank sys.classes) typing

  -- Ranks are bounded by the height of the tree.
  ranks-le : (typing : List PhpType) → IsTyping sys typing → ranks_of typing ≤ sys.cells * height sys.classes
  ranks-le typing is =
      subst (λ n. ranks_of typing ≤ n * height sys.classes) is.len
      (sum_by-le (rank sys.classes) (height sys.classes) typing (λ k d within.
      subst (λ t. rank sys.classes t ≤ height sys.classes) (get_or_default typing k none d within)
      (ranks.bounded (at typing k) (is.types k))))

  -- the type of a cell joined with what a scope asks of it
  abbrev raised : List PhpType → ℕ → ℕ → PhpType
  raised typing scope cell = join sys.classes (at typing cell) (asked sys scope typing cell)

  -- whether the cell's type is above that already
  abbrev is_met_at : List PhpType → ℕ → ℕ → Bool
  is_met_at typing scope cell = same_type (raised typing scope cell) (at typing cell)

  -- What a scope asks of a cell that is met is below the cell's type.
  met-low : (typing : List PhpType) (scope cell : ℕ) → is_met_at typing scope cell ≡ true
      → Leq sys.classes (asked sys scope typing cell) (at typing cell)
  met-low typing scope cell is =
      subst (Leq sys.classes (asked sys scope typing cell))
      ((same_type_decides (raised typing scope cell) (at typing cell)).0 is)
      (joins.above_right (at typing cell) (asked sys scope typing cell))

  raised-of : (typing : List PhpType) (scope cell : ℕ) → scope < sys.scopes → IsTyping sys typing
      → IsOf sys.classes (raised typing scope cell)
  unfolding asked
  raised-of typing scope cell within is =
      joins.within _ _ (is.types cell)
      (asked-of sys.classes (sys.contrib scope typing) cell (λ pair stands.
      (lawful.asks_cells scope typing within is pair stands).1))

  -- With the raised type at a cell it is below every solution still.
  raised-low : (typing : List PhpType) (scope cell : ℕ) → scope < sys.scopes → cell < sys.cells → IsLow typing
      → IsLow (with_cell sys typing cell (raised typing scope cell))
  raised-low typing scope cell within owned low = record {
    is_typing = typing-with sys typing cell (raised typing scope cell) owned low.is_typing
        (raised-of typing scope cell within low.is_typing);
    below = λ solution is.
        with-cell sys typing cell (raised typing scope cell) (omega (arith, low.is_typing.len))
        (λ c t. Leq sys.classes t (at solution c))
        (joins.least _ _ _ (low.below solution is cell)
        (order.transitive _ _ _
        (lawful.monotone scope typing solution within low.is_typing is.is_typing (low.below solution is) cell)
        (met-asked sys solution scope (is.met scope within) cell)))
        (low.below solution is);
  }

  -- Where the cell isn't met the ranks rise.
  raised-rises : (typing : List PhpType) (scope cell : ℕ) → scope < sys.scopes → cell < sys.cells
      → IsTyping sys typing → is_met_at typing scope cell ≡ false
      → ranks_of typing < ranks_of (with_cell sys typing cell (raised typing scope cell))
  raised-rises typing scope cell within owned is unmet =
      let higher : rank sys.classes (at typing cell) < rank sys.classes (raised typing scope cell) =
      ranks.rises (at typing cell) (raised typing scope cell) (is.types cell) (raised-of typing scope cell within is)
      (joins.above_left _ _) (λ same.
      true≢false (sym ((same_type_decides (raised typing scope cell) (at typing cell)).1 (sym same)) ∙ unmet)) in
      let inside : cell < length typing = omega (arith, is.len) in
      omega (arith, sum_by-set (rank sys.classes) typing cell (raised typing scope cell) none inside)

  -- A typing below every solution that is met everywhere is the least.
  low-least : (typing : List PhpType) → IsLow typing
      → ((scope : ℕ) → scope < sys.scopes → (cell : ℕ) → cell < sys.cells → is_met_at typing scope cell ≡ true)
      → IsLeast sys typing
  low-least typing low all = record {
    is_typing = low.is_typing;
    below = low.below;
    greatest = λ lower is each. each typing record {
      is_typing = low.is_typing;
      met = λ scope within. asked-met sys typing scope (λ pair stands.
          met-low typing scope pair.0
          (all scope within pair.0 (lawful.asks_cells scope typing within low.is_typing pair stands).0));
    };
  }

  -- Types rise to the least typing in as many steps as ranks are left.
  rise : (n : ℕ) (typing : List PhpType) → IsLow typing → sys.cells * height sys.classes ≤ ranks_of typing + n
      → (least : List PhpType) × IsLeast sys least
  rise zero typing low left =
      elim (all_or_some_pair (is_met_at typing) sys.scopes sys.cells) [
        | inl all ↦ (typing, low-least typing low all)
        | inr some_pair ↦
            let scope = some_pair.0 in
            let cell = some_pair.2.0 in
            let next = raised-low typing scope cell some_pair.1 some_pair.2.1 low in
            let more = raised-rises typing scope cell some_pair.1 some_pair.2.1 low.is_typing some_pair.2.2 in
            let most = ranks-le (with_cell sys typing cell (raised typing scope cell)) next.is_typing in
            absurd (omega (arith, more, most))
      ]
  rise (suc n) typing low left =
      elim (all_or_some_pair (is_met_at typing) sys.scopes sys.cells) [
        | inl all ↦ (typing, low-least typing low all)
        | inr some_pair ↦
            let scope = some_pair.0 in
            let cell = some_pair.2.0 in
            let more = raised-rises typing scope cell some_pair.1 some_pair.2.1 low.is_typing some_pair.2.2 in
            rise n (with_cell sys typing cell (raised typing scope cell))
            (raised-low typing scope cell some_pair.1 some_pair.2.1 low) (omega (arith, more))
      ]

  -- the typing of empty types
  abbrev empty : List PhpType
  empty = replicate sys.cells none

  empty-at : (cell : ℕ) → at empty cell ≡ none
  empty-at cell =
      elim (cases_lt cell sys.cells) [
        | inl within ↦ get_or-replicate sys.cells cell none none within
        | inr past ↦ get_or_past empty cell none (omega (arith, length-replicate sys.cells none))
      ]

  empty-low : IsLow empty
  unfolding IsOf
  empty-low = record {
    is_typing = record {
      len = length-replicate sys.cells none;
      types = λ cell. subst (IsOf sys.classes) (sym (empty-at cell)) tt;
    };
    below = λ solution is cell.
        subst (λ t. Leq sys.classes t (at solution cell)) (sym (empty-at cell)) (order.none_least (at solution cell));
  }

  pub there_is_a_least : (least : List PhpType) × IsLeast sys least
  there_is_a_least = rise (sys.cells * height sys.classes) empty empty-low (omega arith)
