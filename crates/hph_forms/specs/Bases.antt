-- What lies on the operand stack for the base of a path, for its steps, and for other lists.
use Rattle.std.specs.Prelude.{◌≡◌, ℕ, List, [], ◌∷◌, ◌++◌, Some}
use Rattle.hph_php.specs.Targets.{Base, a_variable, a_location}
use Rattle.hph_php.specs.Targets as target
use Rattle.hph_effects.specs.Hosts.{Item, a_value, a_place}
use Rattle.hph_seqv.specs.Simulates.{Setup, Situation, Pinned}

-- the items of a list, the last one on top
abbrev pub stacked : {A : Type 0} → (A → Item) → List A → List Item
stacked item [] = []
stacked item (x ∷ xs) = stacked item xs ++ (item x ∷ [])

-- A base is an item: a variable is a location that its slot keeps.
abbrev pub IsBase : Setup → Item → Base → Situation → Type 0
IsBase s (a_place l) (a_variable name) w = (i : ℕ) × (s.slot name ≡ Some i) × Pinned i l w
IsBase s (a_place l) (a_location m) w = l ≡ m
IsBase s (a_value v) (target.a_value x) w = v ≡ x
IsBase s _ _ w = ⊥
