-- What an answer says, where memory may run out.
use Rattle.std.specs.Prelude.{◌≡◌, ◌≢◌, Option, Some, None, Result, Ok, Err}
use Rattle.hph_cursor.specs.declared.error.ParseFault.{ParseFault}
use Rattle.hph_cursor.specs.declared.error.ParseFault.TheVariants.{NoMemory}

-- an answer of the function, unless memory runs out
abbrev pub Answers : {A : Type 0} → Option A → Result A ParseFault → Type 0
Answers o (Ok a) = o ≡ Some a
Answers o (Err e) = e ≢ NoMemory → o ≡ None

-- an answer that is this one, unless memory runs out
abbrev pub IsAnswer : {A : Type 0} → A → Result A ParseFault → Type 0
IsAnswer a (Ok b) = b ≡ a
IsAnswer a (Err e) = e ≡ NoMemory
