-- So many things, one behind the other.
use Rattle.std.specs.Prelude.{◌≡◌, ℕ, List, length}
use Rattle.hph_wasm.specs.Grammar.{Grammar, Each}

abbrev pub Counted : {X : Type 0} → (X → Grammar) → ℕ → Grammar
Counted {X} P count front = (xs : List X) × (length xs ≡ count) × Each P xs front
