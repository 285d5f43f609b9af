-- What the validator's answers say.
use Rattle.std.specs.Prelude.{◌≡◌, ℕ}
use Rattle.hph_wasm.specs.declared.module.Module.{Module}
use Rattle.hph_wasm.specs.Faults.{IsFirstInvalid}
use Rattle.hph_wvalid.specs.declared.validator.ValidFault.{ValidFault}
use Rattle.hph_wvalid.specs.declared.validator.ValidFault.TheVariants.{Invalid, NoMemory}

-- A fault that is answered is the first one.
abbrev pub IsFaultIn : Module → ValidFault → Type 0
IsFaultIn m (Invalid function instruction) = IsFirstInvalid m function instruction
IsFaultIn m NoMemory = Unit {0}

-- The fault that is answered, if memory is enough, is at this place.
abbrev pub IsAt : ℕ → ℕ → ValidFault → Type 0
IsAt function instruction (Invalid f k) = (f ≡ function) × (k ≡ instruction)
IsAt function instruction NoMemory = Unit {0}

-- There was too little memory.
abbrev pub IsNoMemory : ValidFault → Type 0
IsNoMemory (Invalid f k) = ⊥
IsNoMemory NoMemory = Unit {0}
