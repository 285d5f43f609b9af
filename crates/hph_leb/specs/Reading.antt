-- Reading a number at the front of bytes, by a grammar of spellings: those of integers are in section 5.2.2 of the
-- WebAssembly Core Specification 1.0.
use Rattle.std.specs.Prelude.{◌≤◌, ℕ, List, length, take, Option, MatchOption}

-- the first so many bytes spell the value
abbrev pub SpellsFront : {X : Type 0} → (X → List ℕ → Type 0) → List ℕ → X → ℕ → Type 0
SpellsFront Spells bytes value count = (count ≤ length bytes) × Spells value (take count bytes)

-- no front of the bytes spells any value
abbrev pub SpellsNoFront : {X : Type 0} → (X → List ℕ → Type 0) → List ℕ → Type 0
SpellsNoFront {X} Spells bytes = (value : X) (count : ℕ) → ¬ Spells value (take count bytes)

-- a value and how many bytes spell it, or None where no front spells any
abbrev pub IsReading : {X : Type 0} → (X → List ℕ → Type 0) → List ℕ → Option (X × ℕ) → Type 0
IsReading Spells bytes reading = MatchOption reading (SpellsNoFront Spells bytes) (λ r. SpellsFront Spells bytes r.0 r.1)
