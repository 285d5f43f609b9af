-- When the front of bytes spells no number, by their first byte.
use Rattle.std.proofs.Common.{◌≡◌, ◌<◌, ◌≤◌, ℕ, zero, suc, ◌+◌, ◌-◌, ◌^◌, List, [], ◌∷◌, length, get_or, take, drop, add-one, arith}
use Rattle.std.proofs.lemmas.List.{take_all}
use Rattle.hph_leb.specs.Reading.{SpellsNoFront}
use Rattle.hph_leb.proofs.Bytewise.{IsFirst, IsBytewise}

-- a byte that ends a spelling has nothing behind it
only_byte : {X : Type 0} {Spells : ℕ → X → List ℕ → Type 0} {join : ℕ → X → X} → IsBytewise Spells join →
    (bits b : ℕ) (x : X) (bytes : List ℕ) → b < 2 ^ 7 → Spells bits x (b ∷ bytes) → Spells bits x (b ∷ [])
only_byte bytewise bits b x [] small spells = spells
only_byte bytewise bits b x (c ∷ bytes) small spells = let first = bytewise.more bits b c x bytes spells in absurd (omega (arith, first.large))

-- a byte that ends a spelling, and spells nothing alone
pub no_last_byte : {X : Type 0} {Spells : ℕ → X → List ℕ → Type 0} {join : ℕ → X → X} → IsBytewise Spells join →
    (bits b : ℕ) (rest : List ℕ) → b < 2 ^ 7 → ((x : X) → ¬ Spells bits x (b ∷ [])) → SpellsNoFront (Spells bits) (b ∷ rest)
no_last_byte bytewise bits b rest small alone x zero spells = bytewise.nonempty bits x spells
no_last_byte bytewise bits b rest small alone x (suc count) spells = alone x (only_byte bytewise bits b x (take count rest) small spells)

-- a byte from 2^7 on goes before the spelling of another number
first_of_more : {X : Type 0} {Spells : ℕ → X → List ℕ → Type 0} {join : ℕ → X → X} → IsBytewise Spells join →
    (bits b : ℕ) (x : X) (bytes : List ℕ) → 2 ^ 7 ≤ b → Spells bits x (b ∷ bytes) → IsFirst Spells join bits b x bytes
first_of_more bytewise bits b x [] large spells = absurd (omega (arith, bytewise.last bits b x spells))
first_of_more bytewise bits b x (c ∷ bytes) large spells = bytewise.more bits b c x bytes spells

-- a byte that others have to follow, where none may, or none that do spell anything
pub no_first_byte : {X : Type 0} {Spells : ℕ → X → List ℕ → Type 0} {join : ℕ → X → X} → IsBytewise Spells join →
    (bits b : ℕ) (rest : List ℕ) → 2 ^ 7 ≤ b → (7 < bits → SpellsNoFront (Spells (bits - 7)) rest) → SpellsNoFront (Spells bits) (b ∷ rest)
no_first_byte bytewise bits b rest large behind x zero spells = bytewise.nonempty bits x spells
no_first_byte bytewise bits b rest large behind x (suc count) spells =
    let first = first_of_more bytewise bits b x (take count rest) large spells in
    behind first.wide first.high count first.rest

-- one byte more than of those behind the first
pub take-first : (bytes : List ℕ) (count : ℕ) → 0 < length bytes → take (count + 1) bytes ≡ get_or bytes 0 0 ∷ take count (take (length bytes - 1) (drop 1 bytes))
take-first [] count some = absurd (omega arith)
take-first (b ∷ rest) count some = rw (add-one, take_all (length (b ∷ rest) - 1) rest (omega arith))
