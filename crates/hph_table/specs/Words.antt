-- The words of the table: the work set, the holders, the cells, and the number pending.
use Rattle.std.specs.Prelude.{◌≡◌, ℕ, ◌≤◌, ◌<◌, ◌+◌, true, false, List, [], ◌∷◌, ◌++◌, map, length, slice_index_or, replicate, Option, None, Some}
use Rattle.hph_type.specs.Codes.{code, of_code}
use Rattle.hph_type.specs.Types.{PhpType, none}
use Rattle.hph_sys.specs.Shape.{Shape}
use Rattle.hph_sys.specs.Typings.{In}
use Rattle.hph_core.specs.declared.view.View.{View}
use Rattle.hph_core.specs.State.{WorkerState, spent, HasAll}
use Rattle.hph_core.specs.Rule.{KeepsInvariant}
use Rattle.hph_table.specs.declared.NoSlot.{NoSlot}
use Rattle.atomic_table.specs.Table as table

-- the type that a word tells, the empty one where it is no type's code
abbrev pub type_or_none : Option PhpType → PhpType
type_or_none None = none
type_or_none (Some t) = t

abbrev pub decode : ℕ → PhpType
decode word = type_or_none (of_code word)

-- the words: the work set, a word per scope, a word per cell, the number pending
abbrev pub words_of : WorkerState → List ℕ
words_of st = st.work ++ (st.holders ++ (map code st.cells ++ st.pending ∷ []))

abbrev pub seat_at : List View → ℕ → View
seat_at vs u = slice_index_or vs u spent

-- seat 0 knows how many seats were made, and a seat that was joined is spent
pub record Extras (workers : ℕ) (vs : List View) : Type 0 where
  pub count : length vs ≤ workers
  pub top : (seat_at vs 0).live ≡ true → (seat_at vs 0).top + 1 ≡ length vs
  pub joined : (u j : ℕ) → In j (seat_at vs u).joined → (j < length vs) × ((seat_at vs j).live ≡ false)

-- the words and the views are those of a state that meets the rule
pub record Stands (sys : Shape) (workers : ℕ) (s : table.State NoSlot View) : Type 0 where
  pub state : WorkerState
  pub words_are : s.words ≡ words_of state
  pub views_are : s.views ≡ state.entries
  pub extras : Extras workers state.entries
  pub rule : KeepsInvariant sys state

-- the words of a table at its start
abbrev pub IsFirst : ℕ → ℕ → List ℕ → Type 0
IsFirst scopes cells ws = (work : List ℕ) × HasAll scopes work × (ws ≡ work ++ (replicate scopes 0 ++ (replicate cells 0 ++ scopes ∷ [])))
