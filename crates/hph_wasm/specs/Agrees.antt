-- When the runs of a module are those of a program. This project's own.
-- A program's run is by its units, a module's by its reductions: each is what has happened after at most so many.
use Rattle.std.specs.Prelude.{◌≡◌, ◌≤◌, ℕ}
use Rattle.hph_wasm.specs.Outcome.{Outcome, More, IsOver, IsPrefix}

module _ {E : Type 0} where
  -- The program's runs and the module's are the same but for their count, which is within the cost.
  pub record Agrees (program wasm : ℕ → Outcome E) (cost : ℕ → ℕ) : Type 0 where
    -- Where the program has ended, the module has ended so within the cost.
    pub ends : (n : ℕ) → IsOver (program n) → (m : ℕ) × (m ≤ cost n) × (wasm m ≡ program n)
    -- Where the module has ended, the program has ended so.
    pub ends_only : (m : ℕ) → IsOver (wasm m) → wasm m ≡ program m
    -- What the program has printed, the module has printed within the cost.
    pub prints : (n : ℕ) → (m : ℕ) × (m ≤ cost n) × IsPrefix (program n).output (wasm m).output
    -- What the module has printed, the program has printed.
    pub prints_only : (m : ℕ) → IsPrefix (wasm m).output (program m).output

  -- The one forward simulation that all four follow from: for each number of units some number of reductions within the cost shows
  -- the same, and no fewer than the units where the program isn't over.
  abbrev pub Follows : (program wasm : ℕ → Outcome E) → (cost : ℕ → ℕ) → Type 0
  Follows program wasm cost = (n : ℕ) → (m : ℕ) × (m ≤ cost n) × (wasm m ≡ program n) × ((program n).end ≡ More → n ≤ m)

  -- What holds of every run: one that has ended stays so, and no output is taken back.
  pub record IsRun (runs : ℕ → Outcome E) : Type 0 where
    pub stays : (n k : ℕ) → IsOver (runs n) → n ≤ k → runs k ≡ runs n
    pub grows : (n k : ℕ) → n ≤ k → IsPrefix (runs n).output (runs k).output
