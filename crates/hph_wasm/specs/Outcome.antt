-- What a run has printed, and how it has ended, as an observer sees it. This project's own.
use Rattle.std.specs.Prelude.{◌≡◌, ◌≢◌, ℕ, List, ◌++◌}

-- The main function has returned, the host has ended the run for a reason, an instruction has trapped, or the run isn't over.
-- A trap is at a function and one of its instructions, counted by opcodes from 0.
pub data End (E : Type 0) : Type 0 where
  Done : End E
  Stopped : (reason : E) → End E
  Trap : (function instruction : ℕ) → End E
  More : End E

-- What has been printed, and how the run has ended.
pub record Outcome (E : Type 0) : Type 0 where
  pub output : List ℕ
  pub end : End E

-- The run has ended.
abbrev pub IsOver : {E : Type 0} → Outcome E → Type 0
IsOver outcome = outcome.end ≢ More

-- A list begins with another.
abbrev pub IsPrefix : List ℕ → List ℕ → Type 0
IsPrefix front whole = (rest : List ℕ) × (whole ≡ front ++ rest)
