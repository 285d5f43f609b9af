-- What a function that parses ensures: what the parser on lists answers, unless memory fails.
use Rattle.std.specs.Prelude.{◌≡◌, ◌≢◌, List, Some, None, Result, Ok, Err}
use Rattle.hph_ast.specs.declared.token.Token.{Token}
use Rattle.hph_cursor.specs.declared.error.ParseFault.{ParseFault}
use Rattle.hph_cursor.specs.declared.error.ParseFault.TheVariants.{NoMemory}
use Rattle.hph_cursor.specs.Steps.{Outcome}

abbrev pub Reads : {A : Type 0} → Outcome A → Result A ParseFault → List Token → Type 0
Reads outcome (Ok a) new = outcome ≡ Some (a, new)
Reads outcome (Err e) new = e ≢ NoMemory → outcome ≡ None

-- the same of a value that is seen as another
abbrev pub ReadsAs : {A B : Type 0} → (B → A) → Outcome A → Result B ParseFault → List Token → Type 0
ReadsAs view outcome (Ok b) new = outcome ≡ Some (view b, new)
ReadsAs view outcome (Err e) new = e ≢ NoMemory → outcome ≡ None
