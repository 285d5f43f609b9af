-- Counts of faults: what HasRisen says, and that it lasts.
use Rattle.std.proofs.Common.{ℕ, ◌≤◌, arith}
use Rattle.hph_src.specs.Faults.{HasRisen, last_count, next_count}

-- a count that has risen has risen at each later time
pub HasRisen-later : (before now later : ℕ) → HasRisen before now → now ≤ later → HasRisen before later
HasRisen-later before now later risen on below = omega arith

-- one more fault is a rise
pub HasRisen-next_count : (count : ℕ) → HasRisen count (next_count count)
HasRisen-next_count count below = omega arith

-- one more fault is no fall
pub le-next_count : (count : ℕ) → count ≤ last_count → count ≤ next_count count
le-next_count count within = omega arith

-- a count that stays has not risen, unless it stands at its last value
pub HasRisen-same : (count : ℕ) → HasRisen count count → last_count ≤ count
HasRisen-same count risen = grind arith

rises_from_four_to_five : HasRisen 4 5
rises_from_four_to_five below = omega arith

rises_at_the_last_value : HasRisen last_count last_count
rises_at_the_last_value below = omega arith

stays_at_five : HasRisen 5 5 → ⊥
stays_at_five risen = omega arith
