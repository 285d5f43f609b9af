-- Cells that rise: they stay below every solution, what doesn't wait stays met, and fewer turns are left.
use Rattle.std.proofs.Common.{◌≡◌, ◌<◌, ◌≤◌, ◌+◌, ◌*◌, ◌⊎◌, ◌∙◌, inl, inr, ℕ, Bool, true, false, List, length, take, get_or, sym, ap, subst, arith, true≢false}
use Rattle.std.specs.Prelude.{slice_set, sum_by, replicate, IsTrue}
use Rattle.std.proofs.lemmas.Bool.{cases_Bool, cases_eq, cases_lt}
use Rattle.std.proofs.lemmas.List.{get_or-set_same, get_or-set_other, get_or-replicate, get_or_past, get_or_default, length-replicate}
use Rattle.std.proofs.lemmas.List.Sums.{sum_by-set, sum_by-le}
use Rattle.std.proofs.Math.Nat.{mul-le-mul_right}
use Rattle.hph_type.specs.Types.{PhpType, none}
use Rattle.hph_type.specs.Classes.{height}
use Rattle.hph_type.specs.Order.{Leq, IsOf, join}
use Rattle.hph_type.specs.Rank.{rank}
use Rattle.hph_type.specs.Laws.{IsOrder, HasJoins, HasRanks}
use Rattle.hph_type.proofs.OrderLaws.{types_are_ordered, types_have_joins}
use Rattle.hph_type.proofs.RankLaws.{types_have_ranks}
use Rattle.hph_sys.specs.Typings.{In, at, Below}
use Rattle.hph_sys.specs.Shape.{Shape, IsTyping, asked}
use Rattle.hph_sys.specs.Least.{IsMet, IsLeast}
use Rattle.hph_sys.specs.Lawful.{Lawful}
use Rattle.hph_sys.specs.AskedLaws.{asked-above, met-asked}
use Rattle.hph_sys.proofs.LeastLaws.{with-cell, typing-with}
use Rattle.hph_plain.specs.Waiting.{waits, one_if, Wakes}
use Rattle.hph_plain.specs.Run.{IsLow, Runs, RunsBut, slack, left}
use Rattle.hph_plain.proofs.Members.{in_more, in_whole}
use Rattle.hph_plain.proofs.Waits.{waits-in}

module _ (sys : Shape) (lawful : Lawful sys) where
  abbrev order : IsOrder sys.classes
  order = types_are_ordered sys.classes

  abbrev joins : HasJoins sys.classes
  joins = types_have_joins sys.classes

  abbrev ranks : HasRanks sys.classes
  ranks = types_have_ranks sys.classes

  -- the typing in which a cell is joined with a type
  abbrev pub risen : List PhpType → ℕ → PhpType → List PhpType
  risen typing cell type = slice_set typing cell (join sys.classes (at typing cell) type)

  risen-typing : (typing : List PhpType) (cell : ℕ) (type : PhpType) → cell < sys.cells → IsTyping sys typing
      → IsOf sys.classes type → IsTyping sys (risen typing cell type)
  risen-typing typing cell type within is of =
      typing-with sys typing cell _ within is (joins.within _ _ (is.types cell) of)

  risen-above : (typing : List PhpType) (cell : ℕ) (type : PhpType) → cell < sys.cells → IsTyping sys typing
      → Below sys.classes typing (risen typing cell type)
  risen-above typing cell type within is =
      with-cell sys typing cell (join sys.classes (at typing cell) type) (omega (arith, within, is.len))
      (λ c t. Leq sys.classes (at typing c) t) (joins.above_left _ _) (λ c. order.reflexive (at typing c))

  -- What is joined is below the cell's type then.
  risen-meets : (typing : List PhpType) (cell : ℕ) (type : PhpType) → cell < sys.cells → IsTyping sys typing
      → Leq sys.classes type (at (risen typing cell type) cell)
  risen-meets typing cell type within is =
      subst (Leq sys.classes type)
      (sym (get_or-set_same typing cell (join sys.classes (at typing cell) type) none (omega (arith, within, is.len))))
      (joins.above_right (at typing cell) type)

  -- A type that a scope asked under a lower typing is below every solution.
  risen-low : (first typing : List PhpType) (scope : ℕ) (pair : ℕ × PhpType) → scope < sys.scopes
      → IsTyping sys first → Below sys.classes first typing → In pair (sys.contrib scope first) → IsLow sys typing
      → IsLow sys (risen typing pair.0 pair.1)
  unfolding asked
  risen-low first typing scope pair within from grown stands low =
      let asks = lawful.asks_cells scope first within from pair stands in
      record {
        is_typing = risen-typing typing pair.0 pair.1 asks.0 low.is_typing asks.1;
        below = λ solution is.
            with-cell sys typing pair.0 (join sys.classes (at typing pair.0) pair.1)
            (omega (arith, asks.0, low.is_typing.len)) (λ c t. Leq sys.classes t (at solution c))
            (joins.least _ _ _ (low.below solution is pair.0)
            (order.transitive _ _ _ (asked-above sys.classes (sys.contrib scope first) pair stands)
            (order.transitive _ _ _
            (lawful.monotone scope first solution within from is.is_typing
            (λ c. order.transitive _ _ _ (grown c) (low.below solution is c)) pair.0)
            (met-asked sys solution scope (is.met scope within) pair.0))))
            (low.below solution is);
      }

  -- A scope that doesn't read the cell asks the same.
  asks-same : (typing : List PhpType) (scope cell : ℕ) (type : PhpType) → scope < sys.scopes → cell < sys.cells
      → IsTyping sys typing → IsOf sys.classes type → (In scope (sys.readers cell) → ⊥)
      → sys.contrib scope (risen typing cell type) ≡ sys.contrib scope typing
  asks-same typing scope cell type within owned is of unread =
      lawful.local scope (risen typing cell type) typing within (risen-typing typing cell type owned is of) is
      (λ c inside reads. elim (cases_eq c cell) [
        | inl same ↦ absurd (unread (subst (λ x. In scope (sys.readers x)) same reads))
        | inr other ↦ get_or-set_other typing cell c (join sys.classes (at typing cell) type) none other
      ])

  -- A cell has risen, and its readers wait.
  record HasRisen (cell : ℕ) (type : PhpType) (old_waiting new_waiting : List Bool) : Type 0 where
    owned : cell < sys.cells
    of : IsOf sys.classes type
    wakes : Wakes (sys.readers cell) old_waiting new_waiting

  -- Who doesn't wait then didn't, and asks the same.
  still : (typing : List PhpType) (scope cell : ℕ) (type : PhpType) (old new : List Bool) → scope < sys.scopes
      → IsTyping sys typing → HasRisen cell type old new → waits new scope ≡ false
      → (waits old scope ≡ true → ⊥) × (sys.contrib scope (risen typing cell type) ≡ sys.contrib scope typing)
  still typing scope cell type old new within is rise idle = (
    λ was. true≢false (sym ((rise.wakes.each scope).1 (inl was)) ∙ idle),
    asks-same typing scope cell type within rise.owned is rise.of
        (λ reads. true≢false (sym ((rise.wakes.each scope).1 (inr reads)) ∙ idle)),
  )

  -- Each other scope waits or is met still.
  others-risen : (one : ℕ) (typing : List PhpType) (cell : ℕ) (type : PhpType) (old new : List Bool)
      → RunsBut sys one typing old → IsLow sys (risen typing cell type) → HasRisen cell type old new
      → RunsBut sys one (risen typing cell type) new
  others-risen one typing cell type old new was low rise = record {
    low = low;
    len = rise.wakes.len ∙ was.len;
    others = λ scope within other. elim (cases_Bool (waits new scope)) [
      | inl now ↦ inl now
      | inr idle ↦
          let same = still typing scope cell type old new within was.low.is_typing rise idle in
          elim (was.others scope within other) [
            | inl waited ↦ absurd (same.0 waited)
            | inr met ↦ inr (λ pair stands.
                order.transitive _ _ _ (met pair (subst (In pair) same.1 stands))
                (risen-above typing cell type rise.owned was.low.is_typing pair.0))
          ]
    ];
  }

  -- Fewer turns are left.
  abbrev ranks_of : List PhpType → ℕ
  ranks_of typing = sum_by (rank sys.classes) typing

  ranks-le : (typing : List PhpType) → IsTyping sys typing → ranks_of typing ≤ sys.cells * height sys.classes
  ranks-le typing is =
      subst (λ n. ranks_of typing ≤ n * height sys.classes) is.len
      (sum_by-le (rank sys.classes) (height sys.classes) typing (λ k d within.
      subst (λ t. rank sys.classes t ≤ height sys.classes) (get_or_default typing k none d within)
      (ranks.bounded (at typing k) (is.types k))))

  ranks-rise : (typing : List PhpType) (cell : ℕ) (type : PhpType) → cell < sys.cells → IsTyping sys typing
      → IsOf sys.classes type → (Leq sys.classes type (at typing cell) → ⊥)
      → ranks_of typing < ranks_of (risen typing cell type)
  ranks-rise typing cell type owned is of unmet =
      let up = join sys.classes (at typing cell) type in
      let higher : rank sys.classes (at typing cell) < rank sys.classes up =
      ranks.rises (at typing cell) up (is.types cell) (joins.within _ _ (is.types cell) of) (joins.above_left _ _)
      (λ same. unmet (subst (Leq sys.classes type) (sym same) (joins.above_right (at typing cell) type))) in
      let inside : cell < length typing = omega (arith, owned, is.len) in
      let sums = sum_by-set (rank sys.classes) typing cell up none inside in
      omega (arith, sums, higher)

  slack-falls : (typing : List PhpType) (cell : ℕ) (type : PhpType) → cell < sys.cells → IsTyping sys typing
      → IsOf sys.classes type → (Leq sys.classes type (at typing cell) → ⊥)
      → slack sys (risen typing cell type) + 1 ≤ slack sys typing
  unfolding slack
  slack-falls typing cell type owned is of unmet =
      let more = ranks-rise typing cell type owned is of unmet in
      let most = ranks-le (risen typing cell type) (risen-typing typing cell type owned is of) in
      omega (arith, more, most)

  one-le : (is : Bool) → one_if is ≤ 1
  one-le true = omega arith
  one-le false = omega arith

  count-le : (waiting : List Bool) → sum_by one_if waiting ≤ length waiting
  count-le waiting =
      let most = sum_by-le one_if 1 waiting (λ k d within. one-le (get_or waiting k d)) in
      omega (arith, most)

  left-by : (a b m v w : ℕ) → a + 1 ≤ b → v + 1 ≤ m → a * m + v < b * m + w
  left-by a b m v w less small =
      let product : (a + 1) * m ≤ b * m = mul-le-mul_right m less in
      omega (arith, product, small)

  left-falls : (typing : List PhpType) (cell : ℕ) (type : PhpType) (old new : List Bool) → IsTyping sys typing
      → length new ≡ sys.scopes → HasRisen cell type old new → (Leq sys.classes type (at typing cell) → ⊥)
      → left sys (risen typing cell type) new < left sys typing old
  unfolding left
  left-falls typing cell type old new is len rise unmet =
      let fewer = slack-falls typing cell type rise.owned is rise.of unmet in
      let most = count-le new in
      left-by (slack sys (risen typing cell type)) (slack sys typing) (sys.scopes + 1) (sum_by one_if new)
      (sum_by one_if old) fewer (omega (arith, most, len))

  -- The pairs before one are met, or the scope that asked them waits.
  pub record AreRaised (one : ℕ) (pairs : List (ℕ × PhpType)) (i : ℕ) (first : List PhpType)
      (first_waiting : List Bool) (typing : List PhpType) (waiting : List Bool) : Type 0 where
    pub from : IsTyping sys first
    pub asks : pairs ≡ sys.contrib one first
    pub grown : Below sys.classes first typing
    pub others : RunsBut sys one typing waiting
    pub here : IsTrue (waits waiting one) ⊎ (
        (sys.contrib one typing ≡ pairs)
        × ((pair : ℕ × PhpType) → In pair (take i pairs) → Leq sys.classes pair.1 (at typing pair.0))
        )
    pub fewer : left sys typing waiting ≤ left sys first first_waiting

  pub raised-start : (one : ℕ) (pairs : List (ℕ × PhpType)) (first : List PhpType) (waiting : List Bool)
      → pairs ≡ sys.contrib one first → RunsBut sys one first waiting
      → AreRaised one pairs 0 first waiting first waiting
  raised-start one pairs first waiting asks but = record {
    from = but.low.is_typing;
    asks = asks;
    grown = λ c. order.reflexive (at first c);
    others = but;
    here = inr (sym asks, λ pair stands. absurd stands);
    fewer = omega arith;
  }

  -- The next pair is met already.
  pub raised-met : (one : ℕ) (pairs : List (ℕ × PhpType)) (i : ℕ) (first typing : List PhpType)
      (first_waiting waiting : List Bool) (pair d : ℕ × PhpType) → i < length pairs → pair ≡ get_or pairs i d
      → AreRaised one pairs i first first_waiting typing waiting → Leq sys.classes pair.1 (at typing pair.0)
      → AreRaised one pairs (i + 1) first first_waiting typing waiting
  raised-met one pairs i first typing first_waiting waiting pair d within is was met = record {
    from = was.from;
    asks = was.asks;
    grown = was.grown;
    others = was.others;
    here = elim was.here [
      | inl waits ↦ inl waits
      | inr same ↦ inr (
        same.0,
        λ p stands. elim (in_more pairs i p d within stands) [
          | inl sooner ↦ same.1 p sooner
          | inr last ↦ subst (λ (q : ℕ × PhpType). Leq sys.classes q.1 (at typing q.0)) (is ∙ sym last) met
        ],
      )
    ];
    fewer = was.fewer;
  }

  -- The next pair's cell rises.
  pub raised-more : (one : ℕ) (pairs : List (ℕ × PhpType)) (i : ℕ) (first typing : List PhpType)
      (first_waiting waiting new : List Bool) (pair d : ℕ × PhpType) → one < sys.scopes → i < length pairs
      → pair ≡ get_or pairs i d → In pair pairs → AreRaised one pairs i first first_waiting typing waiting
      → Wakes (sys.readers pair.0) waiting new → (Leq sys.classes pair.1 (at typing pair.0) → ⊥)
      → AreRaised one pairs (i + 1) first first_waiting (risen typing pair.0 pair.1) new
  raised-more one pairs i first typing first_waiting waiting new pair d in_range within is stands was wakes unmet =
      let asked_pair = subst (In pair) was.asks stands in
      let asks = lawful.asks_cells one first in_range was.from pair asked_pair in
      let typed = was.others.low.is_typing in
      let rise : HasRisen pair.0 pair.1 waiting new = record { owned = asks.0; of = asks.1; wakes = wakes } in
      let low = risen-low first typing one pair in_range was.from was.grown asked_pair was.others.low in
      let above = risen-above typing pair.0 pair.1 asks.0 typed in
      let falls = left-falls typing pair.0 pair.1 waiting new typed (wakes.len ∙ was.others.len) rise unmet in
      let before = was.fewer in
      record {
        from = was.from;
        asks = was.asks;
        grown = λ c. order.transitive _ _ _ (was.grown c) (above c);
        others = others-risen one typing pair.0 pair.1 waiting new was.others low rise;
        here = elim (cases_Bool (waits new one)) [
          | inl now ↦ inl now
          | inr idle ↦
              let same = still typing one pair.0 pair.1 waiting new in_range typed rise idle in
              elim was.here [
                | inl waited ↦ absurd (same.0 waited)
                | inr earlier ↦ inr (
                  same.1 ∙ earlier.0,
                  λ p there. elim (in_more pairs i p d within there) [
                    | inl sooner ↦ order.transitive _ _ _ (earlier.1 p sooner) (above p.0)
                    | inr last ↦
                        subst (λ (q : ℕ × PhpType). Leq sys.classes q.1 (at (risen typing pair.0 pair.1) q.0))
                        (is ∙ sym last) (risen-meets typing pair.0 pair.1 asks.0 typed)
                  ],
                )
              ]
        ];
        fewer = omega (arith, falls, before);
      }

  -- A pair names a cell and a type of the tree.
  pub asks-now : (one : ℕ) (pairs : List (ℕ × PhpType)) (i : ℕ) (first typing : List PhpType)
      (first_waiting waiting : List Bool) (pair : ℕ × PhpType) → one < sys.scopes → In pair pairs
      → AreRaised one pairs i first first_waiting typing waiting → (pair.0 < sys.cells) × IsOf sys.classes pair.1
  asks-now one pairs i first typing first_waiting waiting pair in_range stands was =
      lawful.asks_cells one first in_range was.from pair (subst (In pair) was.asks stands)

  -- what was read of a cell is its type
  pub read-at : (typing : List PhpType) (cell : ℕ) (read : PhpType) → cell < sys.cells → IsTyping sys typing
      → read ≡ get_or typing cell read → at typing cell ≡ read
  read-at typing cell read within is e = get_or_default typing cell none read (omega (arith, within, is.len)) ∙ sym e

  -- The next pair, as the code leaves it.
  pub raised-next : (one : ℕ) (pairs : List (ℕ × PhpType)) (i : ℕ) (first typing typing' : List PhpType)
      (first_waiting waiting waiting' : List Bool) (pair d : ℕ × PhpType) → one < sys.scopes → i < length pairs
      → pair ≡ get_or pairs i d → In pair pairs → AreRaised one pairs i first first_waiting typing waiting
      → typing' ≡ risen typing pair.0 pair.1 → Wakes (sys.readers pair.0) waiting waiting'
      → (Leq sys.classes pair.1 (at typing pair.0) → ⊥)
      → AreRaised one pairs (i + 1) first first_waiting typing' waiting'
  raised-next one pairs i first typing typing' first_waiting waiting waiting' pair d in_range within is stands was e
      wakes unmet =
      subst (λ t. AreRaised one pairs (i + 1) first first_waiting t waiting') (sym e)
      (raised-more one pairs i first typing first_waiting waiting waiting' pair d in_range within is stands was wakes
      unmet)

  pub as-left : (one : ℕ) (pairs : List (ℕ × PhpType)) (i : ℕ) (first typing typing' : List PhpType)
      (first_waiting waiting waiting' : List Bool) → typing' ≡ typing → waiting' ≡ waiting
      → AreRaised one pairs i first first_waiting typing waiting
      → AreRaised one pairs i first first_waiting typing' waiting'
  as-left one pairs i first typing typing' first_waiting waiting waiting' e f was =
      subst (λ t. AreRaised one pairs i first first_waiting t waiting') (sym e)
      (subst (AreRaised one pairs i first first_waiting typing) (sym f) was)

  -- After the last pair the scope is met or waits.
  pub raised-all : (one : ℕ) (pairs : List (ℕ × PhpType)) (i : ℕ) (first typing : List PhpType)
      (first_waiting waiting : List Bool) → length pairs ≤ i
      → AreRaised one pairs i first first_waiting typing waiting → Runs sys typing waiting
  raised-all one pairs i first typing first_waiting waiting past was = record {
    low = was.others.low;
    len = was.others.len;
    each = λ scope within. elim (cases_eq scope one) [
      | inl same ↦ subst (λ s. IsTrue (waits waiting s) ⊎ IsMet sys typing s) (sym same) (elim was.here [
        | inl now ↦ inl now
        | inr earlier ↦ inr (λ pair stands.
            earlier.1 pair (in_whole pairs i pair past (subst (In pair) earlier.0 stands)))
      ])
      | inr other ↦ was.others.others scope within other
    ];
  }

  -- Where a scope is taken that waited, fewer turns are left.
  pub taken-left : (typing : List PhpType) (waiting new : List Bool) (one : ℕ) → new ≡ slice_set waiting one false
      → waits waiting one ≡ true → left sys typing new < left sys typing waiting
  unfolding left
  taken-left typing waiting new one is now =
      let inside = waits-in waiting one now in
      let sums = sum_by-set one_if waiting one false false inside in
      let was : one_if (waits waiting one) ≡ 1 = ap one_if now in
      let same : sum_by one_if new ≡ sum_by one_if (slice_set waiting one false) = ap (sum_by one_if) is in
      omega (arith, sums, was, same)

  -- A run in which none waits has come to the least typing.
  pub run-least : (typing : List PhpType) (waiting : List Bool) → Runs sys typing waiting
      → ((scope : ℕ) → waits waiting scope ≡ false) → IsLeast sys typing
  run-least typing waiting run idle = record {
    is_typing = run.low.is_typing;
    below = run.low.below;
    greatest = λ lower is each. each typing record {
      is_typing = run.low.is_typing;
      met = λ scope within. elim (run.each scope within) [
        | inl now ↦ absurd (true≢false (sym now ∙ idle scope))
        | inr met ↦ met
      ];
    };
  }

  -- the typing of empty types
  abbrev empty : List PhpType
  empty = replicate sys.cells none

  empty-at : (cell : ℕ) → at empty cell ≡ none
  empty-at cell =
      elim (cases_lt cell sys.cells) [
        | inl within ↦ get_or-replicate sys.cells cell none none within
        | inr past ↦ get_or_past empty cell none (omega (arith, length-replicate sys.cells none))
      ]

  empty-low : IsLow sys empty
  unfolding IsOf
  empty-low = record {
    is_typing = record {
      len = length-replicate sys.cells none;
      types = λ cell. subst (IsOf sys.classes) (sym (empty-at cell)) tt;
    };
    below = λ solution is cell.
        subst (λ t. Leq sys.classes t (at solution cell)) (sym (empty-at cell)) (order.none_least (at solution cell));
  }

  -- A run begins with empty types, and every scope waits.
  pub run-start : (typing : List PhpType) (waiting : List Bool) (cells : ℕ) (type : PhpType)
      → typing ≡ replicate cells type → cells ≡ sys.cells → type ≡ none → length waiting ≡ sys.scopes
      → ((scope : ℕ) → scope < sys.scopes → waits waiting scope ≡ true) → Runs sys typing waiting
  run-start typing waiting cells type is count is_none len all = record {
    low = subst (IsLow sys) (sym (is ∙ ap (λ n. replicate n type) count ∙ ap (replicate sys.cells) is_none)) empty-low;
    len = len;
    each = λ scope within. inl (all scope within);
  }
