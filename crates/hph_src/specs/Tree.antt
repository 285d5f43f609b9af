-- What a read of a tree says and leaves: this project's own.
use Rattle.std.specs.Prelude.{◌≡◌, ◌≤◌, ◌<◌, ℕ, List, ◌++◌, length, Option, Some, None}
use Rattle.hph_src.specs.declared.tree.ReadAnswer.{ReadAnswer}
use Rattle.hph_src.specs.declared.tree.ReadAnswer.TheVariants.{Found, Absent, TooLong, Failed, NoMemory}

-- a read that found the file has added at most `limit` bytes to the buffer, and any other read none
abbrev pub Fills : List ℕ → List ℕ → ℕ → ReadAnswer → Type 0
Fills old new limit Found = (bytes : List ℕ) × (length bytes ≤ limit) × (new ≡ old ++ bytes)
Fills old new limit _ = new ≡ old

-- a buffer that a read has begun to fill: some bytes more, of which there are at most `limit` where all were read
abbrev pub Extends : List ℕ → List ℕ → ℕ → ReadAnswer → Type 0
Extends old new limit answer = (bytes : List ℕ) × (new ≡ old ++ bytes) × (answer ≡ Found → length bytes ≤ limit)

-- what the answer says of the file at the path: its bytes were added, it is absent, or it has more than `limit` bytes
abbrev pub Tells : Option (List ℕ) → ℕ → List ℕ → List ℕ → ReadAnswer → Type 0
Tells file limit old new Found = (bytes : List ℕ) × (file ≡ Some bytes) × (length bytes ≤ limit) × (new ≡ old ++ bytes)
Tells file limit old new Absent = file ≡ None
Tells file limit old new TooLong = (bytes : List ℕ) × (file ≡ Some bytes) × (limit < length bytes)
Tells file limit old new Failed = Unit {0}
Tells file limit old new NoMemory = Unit {0}
