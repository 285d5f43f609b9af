-- The system of specs/Chain.antt keeps the laws of systems.
use Rattle.std.specs.Prelude.{◌≡◌, ◌<◌, ℕ, zero, suc, List, [], ◌∷◌, length, slice_index}
use Rattle.std.proofs.Common.{inl, inr, refl, sym, ap, subst, arith}
use Rattle.hph_type.specs.Types.{PhpType}
use Rattle.hph_type.specs.Order.{Leq, IsOf}
use Rattle.hph_type.proofs.OrderLaws.{types_are_ordered}
use Rattle.hph_sys.specs.Typings.{In, at, Below}
use Rattle.hph_sys.specs.Shape.{IsTyping, asked}
use Rattle.hph_sys.specs.Lawful.{Lawful}
use Rattle.hph_sys.specs.AskedLaws.{asked-pairwise}
use Rattle.hph_plain_tests.specs.Chain.{parents, object_of, chain_look, chain_readers, chain_contrib, chain}

look_in : (scope seen : ℕ) → In seen (chain_look scope) → seen < 3
look_in zero seen (inl same) = omega arith
look_in zero seen (inr none) = absurd none
look_in (suc zero) seen (inl same) = omega arith
look_in (suc zero) seen (inr (inl same)) = omega arith
look_in (suc zero) seen (inr (inr none)) = absurd none
look_in (suc (suc scope)) seen (inl same) = omega arith
look_in (suc (suc scope)) seen (inr (inl same)) = omega arith
look_in (suc (suc scope)) seen (inr (inr none)) = absurd none

readers_in : (cell scope : ℕ) → In scope (chain_readers cell) → scope < 3
readers_in zero scope (inl same) = omega arith
readers_in zero scope (inr none) = absurd none
readers_in (suc zero) scope (inl same) = omega arith
readers_in (suc zero) scope (inr none) = absurd none
readers_in (suc (suc cell)) scope none = absurd none

asks_cells : (scope : ℕ) (typing : List PhpType) → IsTyping chain typing → (pair : ℕ × PhpType)
    → In pair (chain_contrib scope typing) → (pair.0 < 3) × IsOf parents pair.1
unfolding IsOf
asks_cells zero typing is pair (inl same) =
    subst (λ (p : ℕ × PhpType). (p.0 < 3) × IsOf parents p.1) (sym same) (omega arith, omega arith)
asks_cells zero typing is pair (inr none) = absurd none
asks_cells (suc zero) typing is pair (inl same) =
    subst (λ (p : ℕ × PhpType). (p.0 < 3) × IsOf parents p.1) (sym same) (omega arith, is.types 0)
asks_cells (suc zero) typing is pair (inr none) = absurd none
asks_cells (suc (suc scope)) typing is pair (inl same) =
    subst (λ (p : ℕ × PhpType). (p.0 < 3) × IsOf parents p.1) (sym same) (omega arith, is.types 1)
asks_cells (suc (suc scope)) typing is pair (inr (inl same)) =
    subst (λ (p : ℕ × PhpType). (p.0 < 3) × IsOf parents p.1) (sym same) (omega arith, omega arith)
asks_cells (suc (suc scope)) typing is pair (inr (inr none)) = absurd none

monotone : (scope : ℕ) (lower upper : List PhpType) → Below parents lower upper → (cell : ℕ)
    → Leq parents (asked chain scope lower cell) (asked chain scope upper cell)
unfolding asked
monotone zero lower upper below cell = (types_are_ordered parents).reflexive _
monotone (suc zero) lower upper below cell =
    asked-pairwise parents (chain_contrib 1 lower) (chain_contrib 1 upper) (refl, below 0, tt) cell
monotone (suc (suc scope)) lower upper below cell =
    asked-pairwise parents (chain_contrib (suc (suc scope)) lower) (chain_contrib (suc (suc scope)) upper)
    (refl, below 1, (refl, (types_are_ordered parents).reflexive (object_of 2), tt)) cell

local : (scope : ℕ) (a b : List PhpType) → scope < 3
    → ((cell : ℕ) → cell < 3 → In scope (chain_readers cell) → at a cell ≡ at b cell)
    → chain_contrib scope a ≡ chain_contrib scope b
local zero a b within same = refl
local (suc zero) a b within same = ap (λ (t : PhpType). (1, t) ∷ []) (same 0 (omega arith) (inl refl))
local (suc (suc zero)) a b within same =
    ap (λ (t : PhpType). (2, t) ∷ (2, object_of 2) ∷ []) (same 1 (omega arith) (inl refl))
local (suc (suc (suc scope))) a b within same = absurd (omega arith)

reads_look : (scope cell : ℕ) → In scope (chain_readers cell) → In cell (chain_look scope)
reads_look scope zero (inl same) = subst (λ s. In 0 (chain_look s)) (sym same) (inl refl)
reads_look scope zero (inr none) = absurd none
reads_look scope (suc zero) (inl same) = subst (λ s. In 1 (chain_look s)) (sym same) (inl refl)
reads_look scope (suc zero) (inr none) = absurd none
reads_look scope (suc (suc cell)) none = absurd none

asks_look : (scope : ℕ) (typing : List PhpType) (pair : ℕ × PhpType) → In pair (chain_contrib scope typing)
    → In pair.0 (chain_look scope)
asks_look zero typing pair (inl same) = inl (ap (λ (p : ℕ × PhpType). p.0) same)
asks_look zero typing pair (inr none) = absurd none
asks_look (suc zero) typing pair (inl same) = inr (inl (ap (λ (p : ℕ × PhpType). p.0) same))
asks_look (suc zero) typing pair (inr none) = absurd none
asks_look (suc (suc scope)) typing pair (inl same) = inr (inl (ap (λ (p : ℕ × PhpType). p.0) same))
asks_look (suc (suc scope)) typing pair (inr (inl same)) = inr (inl (ap (λ (p : ℕ × PhpType). p.0) same))
asks_look (suc (suc scope)) typing pair (inr (inr none)) = absurd none

look_self : (scope : ℕ) → scope < 3 → In scope (chain_look scope)
look_self zero within = inl refl
look_self (suc zero) within = inr (inl refl)
look_self (suc (suc zero)) within = inr (inl refl)
look_self (suc (suc (suc scope))) within = absurd (omega arith)

-- Two numbers of which the first is less ascend.
pair_ascends : (a b i j : ℕ) → a < b → i < j → j < 2 → slice_index (a ∷ b ∷ []) i < slice_index (a ∷ b ∷ []) j
pair_ascends a b zero zero up less within = absurd (omega arith)
pair_ascends a b zero (suc zero) up less within = up
pair_ascends a b zero (suc (suc j)) up less within = absurd (omega arith)
pair_ascends a b (suc i) j up less within = absurd (omega arith)

look_ascends : (scope i j : ℕ) → i < j → j < length (chain_look scope)
    → slice_index (chain_look scope) i < slice_index (chain_look scope) j
look_ascends zero i j less within = absurd (omega arith)
look_ascends (suc zero) i j less within = pair_ascends 0 1 i j (omega arith) less within
look_ascends (suc (suc scope)) i j less within = pair_ascends 1 2 i j (omega arith) less within

pub chain_lawful : Lawful chain
chain_lawful = record {
  some_scope = omega arith;
  owner_in = λ cell within. within;
  look_in = λ scope seen _ stands. look_in scope seen stands;
  readers_in = λ cell scope _ stands. readers_in cell scope stands;
  asks_cells = λ scope typing _ is pair stands. asks_cells scope typing is pair stands;
  monotone = λ scope lower upper _ _ _ below cell. monotone scope lower upper below cell;
  local = λ scope a b within _ _ same. local scope a b within same;
  reads_look = λ scope cell _ stands. reads_look scope cell stands;
  asks_look = λ scope typing _ _ pair stands. asks_look scope typing pair stands;
  look_self = look_self;
  look_ascends = λ scope i j _ less within. look_ascends scope i j less within;
}
