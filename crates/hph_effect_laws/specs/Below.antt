-- What a row leaves alone: the items, holds and frames below those that it names. Whatever lies there, the same happens above it.
use Rattle.std.specs.Prelude.{◌≡◌, ◌≢◌, ℕ, List, [], ◌∷◌, ◌++◌}
use Rattle.hph_wasm.specs.Configuration.{Goes, Stops}
use Rattle.hph_php.specs.declared.fatal.Fatal.TheVariants.{Misuse}
use Rattle.hph_php.specs.Answers.{Fails}
use Rattle.hph_effects.specs.declared.row.Row.{Row}
use Rattle.hph_effects.specs.Hosts.{Item, Held, HostFrame, HostState, Serving, Halted, Replied}
use Rattle.hph_effects.specs.Effects.{call_row}

-- what lies below
pub record Below : Type 0 where
  pub stack : List Item
  pub holds : List Held
  pub frames : List HostFrame

-- a host with this below its own
abbrev pub over : Below → HostState → HostState
over b h = record h { stack = h.stack ++ b.stack; holds = h.holds ++ b.holds; frames = h.frames ++ b.frames }

-- Frames lie below a frame of a function, and none does where the code of the first frame runs.
abbrev pub Covers : (own below : List HostFrame) → Type 0
Covers own [] = Unit {0}
Covers [] (g ∷ gs) = ⊥
Covers (f ∷ fs) (g ∷ gs) = Unit {0}

-- A reply where nothing lies below, and that where something does: the same result and end, and what lies below is as it was. (A
-- wrong use for want of items may be none there.)
abbrev pub IsAbove : Below → Replied → Replied → Type 0
IsAbove b (Goes (Serving h) result) reply = reply ≡ Goes (Serving (over b h)) result
IsAbove b (Goes (Halted out stop) result) reply = ⊥
IsAbove b (Stops s reason) reply = reason ≢ Fails Misuse → reply ≡ Stops s reason

abbrev pub LeavesBelow : Type 0
LeavesBelow = (row : Row) (b : Below) (h : HostState) → Covers h.frames b.frames → (args memory : List ℕ) →
    IsAbove b (call_row row h args memory) (call_row row (over b h) args memory)
