-- The first state of a machine. Source: this project's own.
use Rattle.std.specs.Prelude.{◌≡◌, ℕ}
use Rattle.hph_sys.specs.Shape.{Shape}
use Rattle.hph_core.specs.State.{WorkerState, HasAll}
use Rattle.hph_core.specs.Events.{start}

-- A first state with this many workers: its set has all scopes, and the rest is as at every start.
pub record Begins (sys : Shape) (workers : ℕ) (st : WorkerState) : Type 0 where
  pub full : HasAll sys.scopes st.work
  pub start_is : st ≡ start sys workers st.work
