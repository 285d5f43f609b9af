-- What the definitions of this crate are worth. The functions of src/laws.rt show these.
use Rattle.std.specs.Prelude.{◌≡◌, ◌≢◌, ℕ, ◌<◌, ◌≤◌, ◌+◌, ◌*◌, List, length}
use Rattle.hph_type.specs.Types.{PhpType}
use Rattle.hph_sys.specs.Typings.{In, Below}
use Rattle.hph_sys.specs.Shape.{Shape}
use Rattle.hph_sys.specs.Least.{IsLeast}
use Rattle.hph_sys.specs.Lawful.{Lawful}
use Rattle.hph_core.specs.declared.event.Event.{Event}
use Rattle.hph_core.specs.declared.event.Event.TheVariants.{TryHold}
use Rattle.hph_core.specs.declared.view.Finding.TheVariants.{Done, Pending}
use Rattle.hph_core.specs.State.{WorkerState, HasAll, entry, holder}
use Rattle.hph_core.specs.Rule.{KeepsInvariant, IsDropped}
use Rattle.hph_core.specs.Events.{start, happens, Enabled, run, AllEnabled}

-- The rule holds at the start of up to 64 workers.
abbrev pub StartsWell : Shape → Type 0
StartsWell sys = (work : List ℕ) (workers : ℕ) → HasAll sys.scopes work → workers ≤ 64
    → KeepsInvariant sys (start sys workers work)

-- An enabled event keeps the rule, from any state that meets it.
abbrev pub EventKeeps : Shape → Type 0
EventKeeps sys = (st : WorkerState) (e : Event) → KeepsInvariant sys st → Enabled sys st e
    → KeepsInvariant sys (happens sys st e)

-- So it holds after every list of enabled events.
abbrev pub EveryRunKeeps : Shape → Type 0
EveryRunKeeps sys = (work : List ℕ) (workers : ℕ) (es : List Event) → HasAll sys.scopes work → workers ≤ 64
    → AllEnabled sys (start sys workers work) es → KeepsInvariant sys (run sys (start sys workers work) es)

-- What the rule is used for.
pub record IsOfUse (sys : Shape) (st : WorkerState) : Type 0 where
  -- the cells are at or below the least typing
  pub below : (least : List PhpType) → IsLeast sys least → Below sys.classes st.cells least
  -- they are the least typing once some seat has found nothing pending, and each scope was dropped
  pub least : (w : ℕ) → In (Pending 0) (entry st w).findings → IsLeast sys st.cells
  pub dropped : (w : ℕ) → In (Pending 0) (entry st w).findings → (s : ℕ) → s < sys.scopes → IsDropped (entry st) s
  -- holds and marks are scopes
  pub holds_in : (w d : ℕ) → In d (entry st w).holds → d < sys.scopes
  pub marks_in : (w r : ℕ) → In r (entry st w).marks → r < sys.scopes
  -- no scope has two holders
  pub one_holder : (w u d : ℕ) → In d (entry st w).holds → In d (entry st u).holds → w ≡ u
  -- debts are bounded
  pub bounded : st.pending ≤ sys.scopes + 2 * length st.entries
  -- a try that finds a scope held finds another seat there
  pub busy_is_another : (w d : ℕ) → Enabled sys st (TryHold w d) → holder st d ≢ w + 1

-- What was found stays found: by seats that aren't joined, or by the seat that they are joined to.
abbrev pub FindingsStay : Shape → Type 0
FindingsStay sys = (st : WorkerState) (e : Event) → KeepsInvariant sys st → Enabled sys st e
    → ((w : ℕ) → In (Pending 0) (entry st w).findings → (u : ℕ) × In (Pending 0) (entry (happens sys st e) u).findings)
