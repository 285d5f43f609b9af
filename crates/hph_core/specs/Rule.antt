-- The rule of the machine, which every event keeps. Each part speaks of what a seat, a holder, a member and a cell are.
-- Source: this project's own.
use Rattle.std.specs.Prelude.{◌≡◌, ◌≢◌, ℕ, zero, suc, ◌<◌, ◌≤◌, ◌+◌, ◌/◌, ◌⊎◌, ◌==◌, if◌then◌else◌, Bool, true, false, List, [], ◌∷◌, length, Option, None, Some}
use Rattle.hph_type.specs.Types.{PhpType}
use Rattle.hph_type.specs.Rank.{rank}
use Rattle.hph_sys.specs.Typings.{In, at, Below}
use Rattle.hph_sys.specs.Shape.{Shape, IsTyping}
use Rattle.hph_sys.specs.Least.{IsMet, IsSolution}
use Rattle.hph_core.specs.declared.view.View.{View}
use Rattle.hph_core.specs.declared.view.Known.{Known}
use Rattle.hph_core.specs.declared.view.Finding.{Finding}
use Rattle.hph_core.specs.declared.view.Finding.TheVariants.{Took, Marked, PutBack, Raised, Done, Pending}
use Rattle.hph_core.specs.State.{WorkerState, entry, holder, member, spent}

-- f 0 + .. + f (n - 1)
abbrev pub sum_below : ℕ → (ℕ → ℕ) → ℕ
sum_below zero f = 0
sum_below (suc n) f = sum_below n f + f n

-- the weights of findings, added up
abbrev pub tally : (Finding → ℕ) → List Finding → ℕ
tally g [] = 0
tally g (f ∷ fs) = g f + tally g fs

-- the weights of all findings of the seats, of which there are at most 64
unfoldable pub total : (Finding → ℕ) → (ℕ → View) → ℕ
total g E = sum_below 64 (λ w. tally g (E w).findings)

abbrev pub one_if : Bool → ℕ
one_if b = if b then 1 else 0

abbrev pub both : Bool → Bool → ℕ
both a b = if a then one_if b else 0

-- 1 for a take of the scope that answered true
abbrev pub is_take : ℕ → Finding → ℕ
is_take s (Took d b) = both (d == s) b
is_take s _ = 0

-- 1 for a mark of the scope that answered true
abbrev pub is_mark : ℕ → Finding → ℕ
is_mark s (Marked d b) = both (d == s) b
is_mark s _ = 0

-- 1 for a put back of the scope that answered true
abbrev pub is_put_back : ℕ → Finding → ℕ
is_put_back s (PutBack d b) = both (d == s) b
is_put_back s _ = 0

-- 1 for a raise of the cell
abbrev pub is_raise : ℕ → Finding → ℕ
is_raise c (Raised d t) = one_if (d == c)
is_raise c _ = 0

-- Holders and holds agree: the holder of d is w exactly where d is among the holds of w.
pub record Held (E : ℕ → View) (H : ℕ → ℕ) : Type 0 where
  pub word : (w d : ℕ) → In d (E w).holds → H d ≡ w + 1
  pub hold : (w d : ℕ) → H d ≡ w + 1 → In d (E w).holds

-- What a seat knows of a cell: it holds the cell's owner, and the type is the cell's.
pub record IsKnown (sys : Shape) (T : ℕ → PhpType) (v : View) (k : Known) : Type 0 where
  pub cell_in : k.cell < sys.cells
  pub owner_is : k.owner ≡ sys.owner k.cell
  pub held : In k.owner v.holds
  pub type_is : T k.cell ≡ k.ty

-- Known cells are current.
abbrev pub Knows : Shape → (ℕ → View) → (ℕ → PhpType) → Type 0
Knows sys E T = (w : ℕ) (k : Known) → In k (E w).known → IsKnown sys T (E w) k

-- Spent seats are empty, and a live seat has the number of its place.
pub record Seated (E : ℕ → View) : Type 0 where
  pub number : (w : ℕ) → (E w).live ≡ true → (E w).number ≡ w
  pub gone : (w : ℕ) → (E w).live ≡ false → E w ≡ spent

-- Cells stay below the least typing: they are below every solution.
abbrev pub AtMostLeast : Shape → List PhpType → Type 0
AtMostLeast sys T = (U : List PhpType) → IsSolution sys U → Below sys.classes T U

-- A marked scope looks at a scope that the seat holds, and is in the set or in another's hand.
pub record IsMarked (sys : Shape) (E : ℕ → View) (M : ℕ → ℕ) (w : ℕ) (v : View) (r : ℕ) : Type 0 where
  pub near : (d : ℕ) × In d (sys.look r) × In d v.holds
  pub waits : (M r ≡ 1) ⊎ ((u : ℕ) × (u ≢ w) × ((E u).hand ≡ Some r))

-- Marks are covered.
abbrev pub AllMarked : Shape → (ℕ → View) → (ℕ → ℕ) → Type 0
AllMarked sys E M = (w r : ℕ) → In r (E w).marks → IsMarked sys E M w (E w) r

-- Some seat found the drop of the scope.
abbrev pub IsDropped : (ℕ → View) → ℕ → Type 0
IsDropped E s = (u : ℕ) × In (Done s) (E u).findings

-- A scope is in the set, in a hand, or has its pairs met and was dropped.
pub data IsDue (sys : Shape) (E : ℕ → View) (M : ℕ → ℕ) (T : List PhpType) (s : ℕ) : Type 0 where
  in_set : M s ≡ 1 → IsDue sys E M T s
  in_hand : (u : ℕ) → (E u).hand ≡ Some s → IsDue sys E M T s
  done : IsMet sys T s → IsDropped E s → IsDue sys E M T s

-- No scope is forgotten.
abbrev pub AllDue : Shape → (ℕ → View) → (ℕ → ℕ) → List PhpType → Type 0
AllDue sys E M T = (s : ℕ) → s < sys.scopes → IsDue sys E M T s

abbrev pub hand_weight : Option ℕ → ℕ
hand_weight None = 0
hand_weight (Some s) = 1

-- what a seat has of the number pending: its hand, and its debt, which is at most 1
abbrev pub weight : View → ℕ
weight v = hand_weight v.hand + one_if v.debt

-- the hands and the debts of all seats
unfoldable pub load : (ℕ → View) → ℕ
load E = sum_below 64 (λ w. weight (E w))

-- Pending is counted: it is the size of the set, the number of hands and the debts.
abbrev pub Owed : Shape → (ℕ → View) → (ℕ → ℕ) → ℕ → Type 0
Owed sys E M pending = pending ≡ sum_below sys.scopes M + load E

-- Zero pending means least: where it was found, all pairs are met and each scope was dropped.
abbrev pub AllOver : Shape → (ℕ → View) → List PhpType → Type 0
AllOver sys E T = (w : ℕ) → In (Pending 0) (E w).findings → (s : ℕ) → s < sys.scopes → IsMet sys T s × IsDropped E s

-- Hands are scopes.
abbrev pub HandsIn : Shape → (ℕ → View) → Type 0
HandsIn sys E = (w s : ℕ) → (E w).hand ≡ Some s → s < sys.scopes

-- Raises are bounded: those of a cell are at most the rank of its type.
abbrev pub FewRaises : Shape → (ℕ → View) → (ℕ → PhpType) → Type 0
FewRaises sys E T = (c : ℕ) → total (is_raise c) E ≤ rank sys.classes (T c)

-- Takes are balanced: a scope's takes, and 1 if it is in the set, are 1 with its marks and puts back, of those that
-- answered true.
abbrev pub Counted : Shape → (ℕ → View) → (ℕ → ℕ) → Type 0
Counted sys E M = (s : ℕ) → s < sys.scopes → total (is_take s) E + M s ≡ 1 + (total (is_mark s) E + total (is_put_back s) E)

-- The rule.
pub record KeepsInvariant (sys : Shape) (st : WorkerState) : Type 0 where
  -- words are in range: a type of the tree per cell, a word per scope, the set's words, at most 64 seats
  pub typing : IsTyping sys st.cells
  pub holders : length st.holders ≡ sys.scopes
  pub work : length st.work ≡ (sys.scopes + 63) / 64
  pub few : length st.entries ≤ 64
  pub hands : HandsIn sys (entry st)
  pub members : (s : ℕ) → member st s ≡ 1 → s < sys.scopes
  pub below : AtMostLeast sys st.cells
  pub held : Held (entry st) (holder st)
  pub known : Knows sys (entry st) (at st.cells)
  pub marked : AllMarked sys (entry st) (member st)
  pub due : AllDue sys (entry st) (member st) st.cells
  pub owed : Owed sys (entry st) (member st) st.pending
  pub over : AllOver sys (entry st) st.cells
  pub seated : Seated (entry st)
  pub raises : FewRaises sys (entry st) (at st.cells)
  pub counted : Counted sys (entry st) (member st)

-- what seats with these views found together
abbrev pub tally_all : (Finding → ℕ) → List View → ℕ
tally_all g [] = 0
tally_all g (v ∷ vs) = tally g v.findings + tally_all g vs
