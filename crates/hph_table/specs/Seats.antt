-- The seats of a new table.
use Rattle.std.specs.Prelude.{◌≡◌, ℕ, zero, suc, ◌+◌, ◌/◌, ◌%◌, ◌^◌, ◌<◌, ◌-◌, ◌≤◌, ◌⊎◌, List, [], ◌∷◌, map, length, slice_index_or}
use Rattle.hph_type.specs.Types.{PhpType}
use Rattle.hph_type.specs.Types.{none}
use Rattle.hph_sys.specs.Typings.{In}
use Rattle.hph_core.specs.declared.view.Finding.{Finding}
use Rattle.hph_core.specs.declared.view.View.{View}
use Rattle.hph_core.specs.State.{fresh, spent}
use Rattle.hph_core.specs.Conditions.{IsIdle}
use Rattle.hph_core.specs.Rule.{tally, tally_all}
use Rattle.hph_type.specs.Rank.{rank}
use Rattle.hph_sys.specs.Typings.{at}
use Rattle.hph_sys.specs.Shape.{Shape, IsTyping}
use Rattle.hph_sys.specs.Least.{IsMet, IsLeast}
use Rattle.hph_core.specs.declared.view.Finding.TheVariants.{Done, Pending}
use Rattle.hph_core.specs.Rule.{AtMostLeast, is_raise, is_take, is_mark, is_put_back}
use Rattle.hph_table.specs.Words.{decode}
use Rattle.hph_table.specs.Ids.{TableId}

-- seat number k of n: it has done nothing. Seat 0 keeps the greatest number
abbrev pub new_view : ℕ → ℕ → View
new_view n zero = record (fresh 0) { top = n - 1 }
new_view n (suc k) = fresh (suc k)

-- as many seats as workers, in order of their numbers
pub record AreSeated (id : TableId) (n : ℕ) (seats : List (TableId × View)) : Type 0 where
  pub len : length seats ≡ n
  pub each : (k : ℕ) → k < n → slice_index_or seats k (id, spent) ≡ (id, new_view n k)

-- the seats below n were made, seat 0 beside the others
pub record SoFar (id : TableId) (n : ℕ) (first : TableId × View) (others : List (TableId × View)) : Type 0 where
  pub first_is : first ≡ (id, record (fresh 0) { top = n - 1 })
  pub len : length others ≡ n - 1
  pub each : (k : ℕ) → k < n - 1 → slice_index_or others k (id, spent) ≡ (id, fresh (suc k))

abbrev pub views_of : List (TableId × View) → List View
views_of ps = map (λ p. p.1) ps

-- seats of the table, one for each number below n, that are done with all
pub record AreAll (id : TableId) (n : ℕ) (seats : List (TableId × View)) : Type 0 where
  pub each : (p : TableId × View) → In p seats → (p.0 ≡ id) × IsIdle p.1
  pub has : (j : ℕ) → j < n → (p : TableId × View) × In p seats × (p.1.number ≡ j)

-- all seats but the rest are joined into the one
pub record Joined (id : TableId) (all rest : List (TableId × View)) (m : TableId × View) : Type 0 where
  pub main : (m.0 ≡ id) × IsIdle m.1
  pub sub : (p : TableId × View) → In p rest → In p all
  pub sums : (g : Finding → ℕ) → tally_all g (views_of all) ≡ tally g m.1.findings + tally_all g (views_of rest)
  pub kept : (p : TableId × View) → In p all → In p rest ⊎ ((f : Finding) → In f p.1.findings → In f m.1.findings)
  pub «from» : (f : Finding) → In f m.1.findings → (p : TableId × View) × In p all × In f p.1.findings
  pub numbers : (p : TableId × View) → In p all → In p rest ⊎ In p.1.number (m.1.number ∷ m.1.joined)

-- the types of n cells, read from the words from base on
pub record Read (ws : List ℕ) (base n : ℕ) (out : List PhpType) : Type 0 where
  pub len : length out ≡ n
  pub each : (j : ℕ) → j < n → slice_index_or out j none ≡ decode (slice_index_or ws (base + j) 0)

-- What the cells are where the table has ended, and what its seats found together.
pub record IsEnd (sys : Shape) (views : List View) (T : List PhpType) : Type 0 where
  -- a type of the tree per cell, at or below the least typing
  pub typing : IsTyping sys T
  pub below : AtMostLeast sys T
  -- the least typing where a seat found nothing pending; then all pairs are met, and each scope was dropped
  pub least : (v : View) → In v views → In (Pending 0) v.findings → IsLeast sys T
  pub over : (v : View) → In v views → In (Pending 0) v.findings → (s : ℕ) → s < sys.scopes → IsMet sys T s × ((u : View) × In u views × In (Done s) u.findings)
  -- raises are bounded, and takes are balanced
  pub raises : (c : ℕ) → tally_all (is_raise c) views ≤ rank sys.classes (at T c)
  pub takes : (s : ℕ) → s < sys.scopes → tally_all (is_take s) views ≤ 1 + (tally_all (is_mark s) views + tally_all (is_put_back s) views)
