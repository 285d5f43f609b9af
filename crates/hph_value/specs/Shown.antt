-- The value of hph_php that a value in code is, and what a call tells that answers a value, a fatal error or want of memory.
use Rattle.std.specs.Prelude.{◌≡◌, Result, Ok, Err}
use Rattle.hph_php.specs.declared.fatal.Fatal.{Fatal}
use Rattle.hph_php.specs.Values as php
use Rattle.hph_value.specs.declared.value.Stop.{Stop}
use Rattle.hph_value.specs.declared.value.Stop.TheVariants.{Fatal as Fatally, NoMemory}
use Rattle.hph_value.specs.declared.value.Value as code
use Rattle.hph_value.specs.declared.value.Value.TheOpen as one

-- one level of a value, where the values in it are told already
abbrev pub layer : one.Value-F php.Value → php.Value
layer one.Null = php.Null
layer (one.Bool truth) = php.Boolean truth
layer (one.Int z) = php.Int z
layer (one.Str bytes) = php.Str bytes
layer (one.Arr elements) = php.array_value elements.map
layer (one.Obj number) = php.Obj number

abbrev pub value_of : code.Value → php.Value
value_of value = code.fold-Value php.Value layer value

-- What is answered is exactly what the definition gives, seen by `f`, unless there is no memory.
abbrev pub TellsBy : {A B : Type 0} → (A → B) → Result A Stop → Result B Fatal → Type 0
TellsBy f (Ok a) given = given ≡ Ok (f a)
TellsBy f (Err (Fatally kind)) given = given ≡ Err kind
TellsBy f (Err NoMemory) given = Unit {0}

abbrev pub Tells : Result code.Value Stop → Result php.Value Fatal → Type 0
Tells answer given = TellsBy value_of answer given
