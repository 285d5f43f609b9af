-- What a function that looks for texts answers, unless memory runs out.
use Rattle.std.specs.Prelude.{◌≡◌, ℕ, List, Result, Ok, Err}
use Rattle.hph_text.specs.declared.fault.TextsFault.{TextsFault}
use Rattle.hph_text.specs.declared.fault.TextsFault.TheVariants.{Unlowered, NoMemory}
use Rattle.hph_text.specs.Texts.{Texts, behind}

-- these texts, or the offset
abbrev pub Gives : Texts → Result (List (List ℕ)) TextsFault → Type 0
Gives found (Ok texts) = found ≡ Ok texts
Gives found (Err (Unlowered at)) = found ≡ Err at
Gives found (Err NoMemory) = Unit {0}

-- one text, or the offset
abbrev pub GivesOne : (List ℕ → Texts) → Texts → Result (List ℕ) TextsFault → Type 0
GivesOne alone found (Ok text) = found ≡ alone text
GivesOne alone found (Err (Unlowered at)) = found ≡ Err at
GivesOne alone found (Err NoMemory) = Unit {0}

-- texts behind others, or the offset
abbrev pub Adds : {A : Type 0} → Texts → (old new : List (List ℕ)) → Result A TextsFault → Type 0
Adds found old new (Ok done) = behind (Ok old) found ≡ Ok new
Adds found old new (Err (Unlowered at)) = found ≡ Err at
Adds found old new (Err NoMemory) = Unit {0}
