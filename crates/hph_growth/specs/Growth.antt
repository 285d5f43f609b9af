-- What more units change in a part of a program: an answer that has come stays, and what is printed and called only grows. This
-- project's own.
use Rattle.std.specs.Prelude.{◌≡◌, ◌+◌, ◌≤◌, ℕ, List}
use Rattle.hph_wasm.specs.Outcome.{IsPrefix}
use Rattle.hph_php.specs.State.{State}
use Rattle.hph_php.specs.Answers.{Means, Answer, Gets, Ends, More}
use Rattle.hph_php.specs.World.{World, Receiver, Argument}

-- a state comes before another: what was printed and called stays
pub record Before (a b : State) : Type 0 where
  pub out : IsPrefix a.core.out b.core.out
  pub called : IsPrefix a.called b.called

abbrev pub state_of : {A : Type 0} → Answer A → State
state_of (Gets a n st) = st
state_of (Ends stop st) = st
state_of (More st) = st

-- An answer from units and a state: it leaves no more units, and its state comes later.
abbrev pub Comes : {A : Type 0} → ℕ → State → Answer A → Type 0
Comes n st (Gets a k after) = (k ≤ n) × Before st after
Comes n st (Ends stop after) = Before st after
Comes n st (More after) = Before st after

-- The answer with so many more units. A value is got with all of them left, and where units lacked anything may have followed.
abbrev pub Stays : {A : Type 0} → ℕ → Answer A → Answer A → Type 0
Stays extra (Gets a k st) later = later ≡ Gets a (k + extra) st
Stays extra (Ends stop st) later = later ≡ Ends stop st
Stays extra (More st) later = Before st (state_of later)

-- A meaning and another that agrees with it where the answer of the first has come. Neither makes units, nor takes back what was
-- printed or called.
pub record Grows {A : Type 0} (m later : Means A) : Type 0 where
  pub comes : (n : ℕ) (st : State) → Comes n st (m n st)
  pub later_comes : (n : ℕ) (st : State) → Comes n st (later n st)
  pub stays : (n extra : ℕ) (st : State) → Stays extra (m n st) (later (n + extra) st)

-- the same of all that a world runs
pub record WorldGrows (w later : World) : Type 0 where
  pub calls : (code : ℕ) (on : Receiver) (args : List Argument) → Grows (w.call code on args) (later.call code on args)
  pub enters : (file : ℕ) → Grows (w.enter file) (later.enter file)
  pub constants : (code : ℕ) → Grows (w.constant code) (later.constant code)
  pub initial_values : (code : ℕ) → Grows (w.initial code) (later.initial code)
  pub all_initials : (code : ℕ) → Grows (w.initials code) (later.initials code)
