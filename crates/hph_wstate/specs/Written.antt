-- Lists of values after a write, and locals of which only those that were written are kept.
use Rattle.std.specs.Prelude.{◌≡◌, ◌≤◌, ◌<◌, ℕ, suc, List, [], ◌∷◌, length, slice_set, Bool, true, false}
use Rattle.std.specs.Ordering.{nat_cmp}
use Rattle.std.specs.BTreeMap.{BTreeMap, get}
use Rattle.hph_wasm.specs.declared.value.Value.{Value}
use Rattle.hph_wasm.specs.declared.types.ValType.{ValType}
use Rattle.hph_wasm.specs.Choice.{if_some}
use Rattle.hph_wasm.specs.Values.{value_of}

-- The value at a place is another, if there is such a place.
abbrev pub Written : ℕ → Value → List Value → Bool → List Value → Type 0
Written x v old true new = (x < length old) × (new ≡ slice_set old x v)
Written x v old false new = (length old ≤ x) × (new ≡ old)

-- The values of locals of these types, the first with a number, where the map has those that were written.
abbrev pub values_from : BTreeMap ℕ Value → ℕ → List ValType → List Value
values_from written k [] = []
values_from written k (ty ∷ types) = if_some (get nat_cmp written k) (value_of ty 0) (λ v. v) ∷ values_from written (suc k) types
