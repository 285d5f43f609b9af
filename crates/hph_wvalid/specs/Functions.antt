-- The first fault of a function.
use Rattle.std.specs.Prelude.{◌≡◌, ℕ, Some, slice_get}
use Rattle.hph_wasm.specs.declared.types.FuncType.{FuncType}
use Rattle.hph_wasm.specs.declared.module.Func.{Func}
use Rattle.hph_wasm.specs.declared.module.Module.{Module}
use Rattle.hph_wasm.specs.Faults.{IsFirstFault}

-- The function's type is there, and its body's first fault is at the opcode with this number.
abbrev pub IsFaultOf : Module → Func → ℕ → Type 0
IsFaultOf m func k = (ty : FuncType) × (slice_get m.types func.ty ≡ Some ty) × IsFirstFault m ty func k
