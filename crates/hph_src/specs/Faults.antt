-- Counts of faults: this project's own. A count never falls, and stays at the last value of a u64 once it is there.
use Rattle.std.specs.Prelude.{◌≡◌, ℕ, ◌+◌, ◌-◌, ◌^◌, ◌<◌, min, refl}

-- the last value of a count
abbrev pub last_count : ℕ
last_count = 2 ^ 64 - 1

-- a count is greater than before, or stands at its last value
abbrev pub HasRisen : ℕ → ℕ → Type 0
HasRisen before now = now < last_count → before < now

-- a count after one more fault
abbrev pub next_count : ℕ → ℕ
next_count count = min (count + 1) last_count

next_after_four : next_count 4 ≡ 5
next_after_four = refl

next_after_last : next_count last_count ≡ last_count
next_after_last = refl
