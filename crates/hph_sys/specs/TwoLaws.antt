-- The system of specs/Two.antt keeps the laws of systems.
use Rattle.std.specs.Prelude.{◌≡◌, ◌<◌, ℕ, zero, suc, List, [], ◌∷◌, length, slice_index}
use Rattle.std.proofs.Common.{inl, inr, refl, sym, ap, subst, arith}
use Rattle.hph_type.specs.Types.{PhpType}
use Rattle.hph_type.specs.Order.{Leq, IsOf}
use Rattle.hph_type.proofs.OrderLaws.{types_are_ordered}
use Rattle.hph_sys.specs.Typings.{In, at, Below}
use Rattle.hph_sys.specs.Shape.{IsTyping, asked}
use Rattle.hph_sys.specs.Lawful.{Lawful}
use Rattle.hph_sys.specs.AskedLaws.{asked-pairwise}
use Rattle.hph_sys.specs.Two.{two_look, two_readers, two_contrib, two}

look_in : (scope seen : ℕ) → In seen (two_look scope) → seen < 2
look_in zero seen (inl same) = omega arith
look_in zero seen (inr none) = absurd none
look_in (suc scope) seen (inl same) = omega arith
look_in (suc scope) seen (inr (inl same)) = omega arith
look_in (suc scope) seen (inr (inr none)) = absurd none

readers_in : (cell scope : ℕ) → In scope (two_readers cell) → scope < 2
readers_in zero scope (inl same) = omega arith
readers_in zero scope (inr none) = absurd none
readers_in (suc cell) scope none = absurd none

asks_cells : (scope : ℕ) (typing : List PhpType) → IsTyping two typing → (pair : ℕ × PhpType)
    → In pair (two_contrib scope typing) → (pair.0 < 2) × IsOf [] pair.1
unfolding IsOf
asks_cells zero typing is pair (inl same) =
    subst (λ (p : ℕ × PhpType). (p.0 < 2) × IsOf [] p.1) (sym same) (omega arith, tt)
asks_cells zero typing is pair (inr none) = absurd none
asks_cells (suc scope) typing is pair (inl same) =
    subst (λ (p : ℕ × PhpType). (p.0 < 2) × IsOf [] p.1) (sym same) (omega arith, is.types 0)
asks_cells (suc scope) typing is pair (inr none) = absurd none

monotone : (scope : ℕ) (lower upper : List PhpType) → Below [] lower upper → (cell : ℕ)
    → Leq [] (asked two scope lower cell) (asked two scope upper cell)
unfolding asked
monotone zero lower upper below cell = (types_are_ordered []).reflexive _
monotone (suc scope) lower upper below cell =
    asked-pairwise [] (two_contrib (suc scope) lower) (two_contrib (suc scope) upper) (refl, below 0, tt) cell

local : (scope : ℕ) (a b : List PhpType) → scope < 2
    → ((cell : ℕ) → cell < 2 → In scope (two_readers cell) → at a cell ≡ at b cell)
    → two_contrib scope a ≡ two_contrib scope b
local zero a b within same = refl
local (suc zero) a b within same = ap (λ (t : PhpType). (1, t) ∷ []) (same 0 (omega arith) (inl refl))
local (suc (suc scope)) a b within same = absurd (omega arith)

reads_look : (scope cell : ℕ) → In scope (two_readers cell) → In cell (two_look scope)
reads_look scope (suc cell) none = absurd none
reads_look zero zero reads = inl refl
reads_look (suc scope) zero reads = inl refl

asks_look : (scope : ℕ) (typing : List PhpType) (pair : ℕ × PhpType) → In pair (two_contrib scope typing)
    → In pair.0 (two_look scope)
asks_look zero typing pair (inl same) = inl (ap (λ (p : ℕ × PhpType). p.0) same)
asks_look zero typing pair (inr none) = absurd none
asks_look (suc scope) typing pair (inl same) = inr (inl (ap (λ (p : ℕ × PhpType). p.0) same))
asks_look (suc scope) typing pair (inr none) = absurd none

look_self : (scope : ℕ) → scope < 2 → In scope (two_look scope)
look_self zero within = inl refl
look_self (suc zero) within = inr (inl refl)
look_self (suc (suc scope)) within = absurd (omega arith)

look_ascends : (scope i j : ℕ) → i < j → j < length (two_look scope)
    → slice_index (two_look scope) i < slice_index (two_look scope) j
look_ascends zero i j less within = absurd (omega arith)
look_ascends (suc scope) zero zero less within = absurd (omega arith)
look_ascends (suc scope) zero (suc zero) less within = omega arith
look_ascends (suc scope) zero (suc (suc j)) less within = absurd (omega arith)
look_ascends (suc scope) (suc i) j less within = absurd (omega arith)

pub two_lawful : Lawful two
two_lawful = record {
  some_scope = omega arith;
  owner_in = λ cell within. within;
  look_in = λ scope seen _ stands. look_in scope seen stands;
  readers_in = λ cell scope _ stands. readers_in cell scope stands;
  asks_cells = λ scope typing _ is pair stands. asks_cells scope typing is pair stands;
  monotone = λ scope lower upper _ _ _ below cell. monotone scope lower upper below cell;
  local = λ scope a b within _ _ same. local scope a b within same;
  reads_look = λ scope cell _ stands. reads_look scope cell stands;
  asks_look = λ scope typing _ _ pair stands. asks_look scope typing pair stands;
  look_self = look_self;
  look_ascends = λ scope i j _ less within. look_ascends scope i j less within;
}
