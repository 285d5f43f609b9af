-- The forms in which the keys of an array are held. Source: this project's own.
use Rattle.std.specs.Prelude.{ℕ, ◌<◌, List, [], ◌∷◌, ⊤}
use Rattle.hph_array.specs.declared.key.Key.{Key}
use Rattle.hph_array.specs.declared.keys.Form.{Form}
use Rattle.hph_array.specs.declared.keys.Form.TheVariants.{Rising, Indexed}
use Rattle.hph_array.specs.Key.{number_after}

-- Ints that aren't negative: each is above the one before it, and the first is at least `low`.
abbrev pub RiseFrom : ℕ → List Key → Type 0
RiseFrom low [] = ⊤
RiseFrom low (key ∷ keys) = (low < number_after key) × RiseFrom (number_after key) keys

-- the keys of a form, in order
abbrev pub keys_in : Form → List Key
keys_in (Rising keys) = keys.items
keys_in (Indexed keys) = keys.value.keys

-- Keys that are held without an index rise.
abbrev pub IsHeld : Form → Type 0
IsHeld (Rising keys) = RiseFrom 0 keys.items
IsHeld (Indexed keys) = ⊤
