-- The pairs of a value that is an array.
use Rattle.std.specs.Prelude.{◌≡◌, Bool, true, false, Result, Ok, Err}
use Rattle.hph_array.specs.Array.{array_map}
use Rattle.hph_php.specs.declared.fatal.Fatal.TheVariants.{Misuse}
use Rattle.hph_php.specs.Values.{Value, Arr, array_value}
use Rattle.hph_value.specs.declared.value.Value as code
use Rattle.hph_value.specs.declared.value.Elements.{Elements}
use Rattle.hph_value.specs.declared.value.Stop.{Stop}
use Rattle.hph_value.specs.declared.value.Stop.TheVariants.{Fatal, NoMemory}
use Rattle.hph_value.specs.Shown.{value_of}

abbrev pub is_array : Value → Bool
is_array (Arr pairs next_key) = true
is_array _ = false

abbrev pub AreElements : Result (Elements code.Value) Stop → Value → Type 0
AreElements (Ok elements) value = value ≡ array_value (array_map value_of elements.map)
AreElements (Err (Fatal kind)) value = (is_array value ≡ false) × (kind ≡ Misuse)
AreElements (Err NoMemory) value = Unit {0}
