-- What is decided of modules: that they are valid and run on a host, or what comes first that is wrong.
use Rattle.std.specs.Prelude.{◌⊎◌, ℕ}
use Rattle.hph_wasm.specs.declared.types.FuncType.{FuncType}
use Rattle.hph_wasm.specs.declared.module.Func.{Func}
use Rattle.hph_wasm.specs.declared.module.Module.{Module}
use Rattle.hph_wasm.specs.Validity.{IsBody}
use Rattle.hph_wasm.specs.ModuleValidity.{IsValidOutside, IsValid}
use Rattle.hph_wasm.specs.Faults.{IsFirstFault, IsFirstInvalid}
use Rattle.hph_wasm.specs.Configuration.{Host}
use Rattle.hph_wasm.specs.Run.{Obstacle, IsFirstObstacle, IsReady}

-- What stands outside code is valid, or isn't.
abbrev pub OutsideIsDecided : Module → Type 0
OutsideIsDecided m = IsValidOutside m ⊎ (IsValidOutside m → ⊥)

-- A body is valid, or has a first fault, at the opcode with this number.
abbrev pub BodyIsDecided : Module → FuncType → Func → Type 0
BodyIsDecided m ty func = IsBody m ty func ⊎ ((k : ℕ) × IsFirstFault m ty func k)

-- A module is valid, or has a first fault, in the function with this number and at the opcode with this number, where faults outside
-- code come first.
abbrev pub ModuleIsDecided : Module → Type 0
ModuleIsDecided m = IsValid m ⊎ ((f : ℕ) × (k : ℕ) × IsFirstInvalid m f k)

-- A module runs on a host, or this is the first that keeps it from running: an import, `main`, or a segment.
abbrev pub ReadinessIsDecided : {H E : Type 0} → Host H E → Module → Type 0
ReadinessIsDecided host m = IsReady host m ⊎ ((obstacle : Obstacle) × IsFirstObstacle host m obstacle)
