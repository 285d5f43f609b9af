-- What a write to a variable leaves in it.
use Rattle.std.specs.Prelude.{◌≡◌, ℕ, [], ◌∷◌, Option, Some, Result, Ok, Err}
use Rattle.hph_array.specs.Array.{Array, array_map}
use Rattle.hph_php.specs.declared.fatal.Fatal.{Fatal}
use Rattle.hph_php.specs.Values as php
use Rattle.hph_php.specs.Arrays.{append}
use Rattle.hph_php.specs.Conversions.{and_then, map_ok}
use Rattle.hph_php.specs.Paths.{array_for_write, at_end, write_path, written}
use Rattle.hph_php.specs.State.{Heap}
use Rattle.hph_value.specs.declared.value.Elements.{Elements}
use Rattle.hph_value.specs.declared.value.Stop.{Stop}
use Rattle.hph_value.specs.declared.value.Stop.TheVariants.{Fatal as Fatally, NoMemory}
use Rattle.hph_value.specs.declared.value.Value as code
use Rattle.hph_value.specs.Shown.{value_of}

-- What is left is exactly what the definition gives, seen by `f`. After a fatal error, and where there is no memory, it is
-- what was there.
abbrev pub WritesBy : {A B : Type 0} → (A → B) → Result (Unit {0}) Stop → A → A → Result B Fatal → Type 0
WritesBy f (Ok done) old new given = given ≡ Ok (f new)
WritesBy f (Err (Fatally kind)) old new given = (given ≡ Err kind) × (new ≡ old)
WritesBy f (Err NoMemory) old new given = new ≡ old

abbrev pub Writes : Result (Unit {0}) Stop → code.Value → code.Value → Result php.Value Fatal → Type 0
Writes result old new given = WritesBy value_of result old new given

-- the array that the pairs of an array in code are
abbrev pub array_seen : Elements code.Value → Array php.Value
array_seen elements = array_map value_of elements.map

-- `$a[] = value`, by what $a has: null and false become an array.
abbrev pub with_last : php.Value → php.Value → Result php.Value Fatal
with_last old value = and_then (array_for_write (Some old)) (λ a. map_ok php.array_value (append a value))

-- It is what a write along the path `[]` leaves.
abbrev pub AppendsAlongPath : Type 0
AppendsAlongPath = (heap : Heap) (within : Option ℕ) (old value : php.Value)
    → write_path heap within (at_end ∷ []) value (Some old) ≡ map_ok (written heap within) (with_last old value)
