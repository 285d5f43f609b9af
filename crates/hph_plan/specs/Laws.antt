-- What a plan is worth: literals lie where they are placed, and slots tell names apart.
use Rattle.std.specs.Prelude.{◌≡◌, ◌≤◌, ◌<◌, ◌+◌, ℕ, List, [], length, take, drop, Contains, Some, true, is_some, bytes_eq}
use Rattle.std.specs.List.{concat, IsDistinct}
use Rattle.hph_ast.specs.declared.function.Function.{Function}
use Rattle.hph_ast.specs.declared.program.Program.{Program}
use Rattle.hph_php.specs.State.{Name}
use Rattle.hph_plan.specs.Parts.{distinct}
use Rattle.hph_plan.specs.Plan.{place_in, slot_in, plan_of, body_names}

-- A literal lies in memory where it is placed.
abbrev pub LiteralsLieAtTheirPlaces : Type 0
LiteralsLieAtTheirPlaces = (texts : List (List ℕ)) (text : List ℕ) (place : ℕ) → place_in texts 0 text ≡ Some place →
    (place + length text ≤ length (concat texts)) × (take (length text) (drop place (concat texts)) ≡ text)

-- Each literal has a place.
abbrev pub LiteralsHavePlaces : Type 0
LiteralsHavePlaces = (texts : List (List ℕ)) (text : List ℕ) → Contains texts text → is_some (place_in texts 0 text) ≡ true

-- Each name of a frame has a slot.
abbrev pub NamesHaveSlots : Type 0
NamesHaveSlots = (names : List Name) (name : Name) → Contains names name → is_some (slot_in names name) ≡ true

-- A slot is one of its frame.
abbrev pub SlotsAreInRange : Type 0
SlotsAreInRange = (names : List Name) (name : Name) (slot : ℕ) → slot_in names name ≡ Some slot → slot < length names

-- Two names of a frame have two slots.
abbrev pub SlotsAreApart : Type 0
SlotsAreApart = (names : List Name) (a b : Name) (slot : ℕ) → slot_in names a ≡ Some slot → slot_in names b ≡ Some slot → a ≡ b

-- Each literal of a program stands in its plan once, and so does each variable of its first frame and of a function's.
abbrev pub PlansListOnce : Type 0
PlansListOnce = (p : Program) → IsDistinct bytes_eq (plan_of p).texts × IsDistinct bytes_eq (plan_of p).globals

abbrev pub BodiesListOnce : Type 0
BodiesListOnce = (f : Function) → IsDistinct bytes_eq (body_names f)

-- What is listed once is all that there was, and nothing else.
abbrev pub ListsTheSame : Type 0
ListsTheSame = (xs : List (List ℕ)) (x : List ℕ) → (Contains xs x → Contains (distinct [] xs) x) × (Contains (distinct [] xs) x → Contains xs x)
