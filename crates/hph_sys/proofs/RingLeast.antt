-- The system of specs/Ring.antt keeps the laws of systems, and its least typing.
use Rattle.std.proofs.Common.{◌≡◌, ◌<◌, inl, inr, ℕ, zero, suc, List, [], ◌∷◌, refl, sym, ap, subst, arith}
use Rattle.std.specs.Prelude.{slice_index}
use Rattle.hph_type.specs.Types.{PhpType}
use Rattle.hph_type.specs.Order.{Leq, IsOf, join}
use Rattle.hph_type.specs.Laws.{IsOrder, HasJoins}
use Rattle.hph_type.proofs.OrderLaws.{types_are_ordered, types_have_joins}
use Rattle.hph_sys.specs.Typings.{In, at, Below}
use Rattle.hph_sys.specs.Shape.{IsTyping, asked}
use Rattle.hph_sys.specs.Least.{IsMet, IsSolution, IsLeast}
use Rattle.hph_sys.specs.Lawful.{Lawful}
use Rattle.hph_sys.specs.AskedLaws.{asked-pairwise}
use Rattle.hph_sys.specs.Two.{int}
use Rattle.hph_sys.specs.Ring.{str, int_or_str, ring_readers, ring_contrib, ring, ring_least}

abbrev order : IsOrder []
order = types_are_ordered []

abbrev joins : HasJoins []
joins = types_have_joins []

-- ---- laws

look_in : (seen : ℕ) → In seen (0 ∷ 1 ∷ []) → seen < 2
look_in seen (inl same) = omega arith
look_in seen (inr (inl same)) = omega arith
look_in seen (inr (inr none)) = absurd none

readers_in : (cell scope : ℕ) → In scope (ring_readers cell) → scope < 2
readers_in zero scope (inl same) = omega arith
readers_in zero scope (inr none) = absurd none
readers_in (suc cell) scope (inl same) = omega arith
readers_in (suc cell) scope (inr none) = absurd none

abbrev IsAsked : ℕ × PhpType → Type 0
IsAsked pair = (pair.0 < 2) × IsOf [] pair.1

asks_cells : (scope : ℕ) (typing : List PhpType) → IsTyping ring typing → (pair : ℕ × PhpType)
    → In pair (ring_contrib scope typing) → IsAsked pair
unfolding IsOf
asks_cells zero typing is pair (inl same) = subst IsAsked (sym same) (omega arith, tt)
asks_cells zero typing is pair (inr (inl same)) = subst IsAsked (sym same) (omega arith, is.types 1)
asks_cells zero typing is pair (inr (inr none)) = absurd none
asks_cells (suc scope) typing is pair (inl same) = subst IsAsked (sym same) (omega arith, is.types 0)
asks_cells (suc scope) typing is pair (inr (inl same)) = subst IsAsked (sym same) (omega arith, tt)
asks_cells (suc scope) typing is pair (inr (inr none)) = absurd none

monotone : (scope : ℕ) (lower upper : List PhpType) → Below [] lower upper → (cell : ℕ)
    → Leq [] (asked ring scope lower cell) (asked ring scope upper cell)
unfolding asked
monotone zero lower upper below cell =
    asked-pairwise [] (ring_contrib zero lower) (ring_contrib zero upper)
    (refl, order.reflexive int, (refl, below 1, tt)) cell
monotone (suc scope) lower upper below cell =
    asked-pairwise [] (ring_contrib (suc scope) lower) (ring_contrib (suc scope) upper)
    (refl, below 0, (refl, order.reflexive str, tt)) cell

local : (scope : ℕ) (a b : List PhpType) → scope < 2
    → ((cell : ℕ) → cell < 2 → In scope (ring_readers cell) → at a cell ≡ at b cell)
    → ring_contrib scope a ≡ ring_contrib scope b
local zero a b within same = ap (λ (t : PhpType). (0, int) ∷ (0, t) ∷ []) (same 1 (omega arith) (inl refl))
local (suc zero) a b within same = ap (λ (t : PhpType). (1, t) ∷ (1, str) ∷ []) (same 0 (omega arith) (inl refl))
local (suc (suc scope)) a b within same = absurd (omega arith)

in_look : (seen : ℕ) → seen < 2 → In seen (0 ∷ 1 ∷ [])
in_look zero within = inl refl
in_look (suc zero) within = inr (inl refl)
in_look (suc (suc seen)) within = absurd (omega arith)

look_ascends : (i j : ℕ) → i < j → j < 2 → slice_index (0 ∷ 1 ∷ []) i < slice_index (0 ∷ 1 ∷ []) j
look_ascends zero zero less within = absurd (omega arith)
look_ascends zero (suc zero) less within = omega arith
look_ascends zero (suc (suc j)) less within = absurd (omega arith)
look_ascends (suc i) j less within = absurd (omega arith)

pub ring_is_lawful : Lawful ring
ring_is_lawful = record {
  some_scope = omega arith;
  owner_in = λ cell within. within;
  look_in = λ scope seen _ stands. look_in seen stands;
  readers_in = λ cell scope _ stands. readers_in cell scope stands;
  asks_cells = λ scope typing _ is pair stands. asks_cells scope typing is pair stands;
  monotone = λ scope lower upper _ _ _ below cell. monotone scope lower upper below cell;
  local = λ scope a b within _ _ same. local scope a b within same;
  reads_look = λ scope cell within _. in_look cell within;
  asks_look = λ scope typing _ is pair stands. in_look pair.0 (asks_cells scope typing is pair stands).0;
  look_self = in_look;
  look_ascends = λ scope i j _ less within. look_ascends i j less within;
}

-- ---- the least typing

types : (cell : ℕ) → IsOf [] (at ring_least cell)
unfolding IsOf
types zero = tt
types (suc zero) = tt
types (suc (suc cell)) = tt

int_below : Leq [] int int_or_str
unfolding join
int_below = joins.above_left int str

str_below : Leq [] str int_or_str
unfolding join
str_below = joins.above_right int str

both_below : (upper : PhpType) → Leq [] int upper → Leq [] str upper → Leq [] int_or_str upper
unfolding join
both_below upper = joins.least int str upper

abbrev IsMetPair : ℕ × PhpType → Type 0
IsMetPair pair = Leq [] pair.1 (at ring_least pair.0)

met : (scope : ℕ) → scope < 2 → IsMet ring ring_least scope
met zero within pair (inl same) = subst IsMetPair (sym same) int_below
met zero within pair (inr (inl same)) = subst IsMetPair (sym same) (order.reflexive int_or_str)
met zero within pair (inr (inr none)) = absurd none
met (suc scope) within pair (inl same) = subst IsMetPair (sym same) (order.reflexive int_or_str)
met (suc scope) within pair (inr (inl same)) = subst IsMetPair (sym same) str_below
met (suc scope) within pair (inr (inr none)) = absurd none

solution : IsSolution ring ring_least
solution = record { is_typing = record { len = refl; types = types }; met = met }

below : (typing : List PhpType) → IsSolution ring typing → Below [] ring_least typing
below typing is =
    let first : Leq [] int (at typing 0) = is.met 0 (omega arith) (0, int) (inl refl) in
    let back : Leq [] (at typing 1) (at typing 0) = is.met 0 (omega arith) (0, at typing 1) (inr (inl refl)) in
    let on : Leq [] (at typing 0) (at typing 1) = is.met 1 (omega arith) (1, at typing 0) (inl refl) in
    let second : Leq [] str (at typing 1) = is.met 1 (omega arith) (1, str) (inr (inl refl)) in
    elim [
      | zero ↦ both_below (at typing 0) first (order.transitive _ _ _ second back)
      | suc rest ↦ elim rest as (λ r. Leq [] (at ring_least (suc r)) (at typing (suc r))) [
        | zero ↦ both_below (at typing 1) (order.transitive _ _ _ first on) second
        | suc past ↦ order.none_least _
      ]
    ]

pub ring_is_least : IsLeast ring ring_least
ring_is_least = record {
  is_typing = solution.is_typing;
  below = below;
  greatest = λ lower is each. each ring_least solution;
}
