-- What the workers share and what each of them has. Source: this project's own.
use Rattle.std.specs.Prelude.{◌≡◌, ℕ, ◌<◌, ◌≤◌, ◌+◌, ◌/◌, ◌%◌, ◌==◌, Bool, true, false, not, if◌then◌else◌, List, [], ◌∷◌, length, slice_index_or, None}
use Rattle.std.specs.Int.{bit_at}
use Rattle.hph_type.specs.Types.{PhpType}
use Rattle.hph_core.specs.declared.view.View.{View}
use Rattle.hph_core.specs.declared.view.Known.{Known}

-- A state of the machine of the workers. Scopes, cells and seats are numbered from 0.
pub record WorkerState : Type 0 where
  -- a type per cell
  pub cells : List PhpType
  -- per scope 0 where it is free, else the number of the seat that holds it plus 1
  pub holders : List ℕ
  -- the work set, 64 scopes to a word, scope 0 in bit 0 of word 0
  pub work : List ℕ
  pub pending : ℕ
  -- what each seat has and knows
  pub entries : List View

-- a seat that was joined into another has nothing
abbrev pub spent : View
spent = record { live = false; number = 0; hand = None; holds = []; marks = []; debt = false; known = []; findings = []; top = 0; joined = [] }

-- a seat that has done nothing yet
abbrev pub fresh : ℕ → View
fresh number = record { live = true; number = number; hand = None; holds = []; marks = []; debt = false; known = []; findings = []; top = number; joined = [] }

-- what a seat has; a number that no seat has counts as a spent one's
abbrev pub entry : WorkerState → ℕ → View
entry st w = slice_index_or st.entries w spent

abbrev pub holder : WorkerState → ℕ → ℕ
holder st d = slice_index_or st.holders d 0

-- 1 where the scope is in the set, else 0
abbrev pub member_of : List ℕ → ℕ → ℕ
member_of work s = bit_at (slice_index_or work (s / 64) 0) (s % 64)

abbrev pub member : WorkerState → ℕ → ℕ
member st s = member_of st.work s

abbrev pub work_word : WorkerState → ℕ → ℕ
work_word st j = slice_index_or st.work j 0

-- the members of a list of which a test is true
abbrev pub keep_if : {A : Type 0} → (A → Bool) → List A → List A
keep_if p [] = []
keep_if p (x ∷ xs) = if p x then x ∷ keep_if p xs else keep_if p xs

abbrev pub without : ℕ → List ℕ → List ℕ
without d xs = keep_if (λ x. not (x == d)) xs

-- what is known of cells whose owner is another scope
abbrev pub elsewhere : ℕ → List Known → List Known
elsewhere owner known = keep_if (λ k. not (k.owner == owner)) known

-- what is known of other cells
abbrev pub others : ℕ → List Known → List Known
others cell known = keep_if (λ k. not (k.cell == cell)) known

-- the words of a set that has the scopes below a number and no others
pub record HasAll (scopes : ℕ) (work : List ℕ) : Type 0 where
  pub len : length work ≡ (scopes + 63) / 64
  pub has : (j : ℕ) → j < scopes → member_of work j ≡ 1
  pub has_not : (j : ℕ) → scopes ≤ j → member_of work j ≡ 0
