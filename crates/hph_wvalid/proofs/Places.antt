-- The first fault of a module from that of a function, and what no other answer can be.
use Rattle.std.proofs.Common.{◌≡◌, ℕ, ◌+◌, sym, subst, Some, length, take}
use Rattle.std.specs.Prelude.{slice_get}
use Rattle.std.specs.List.{AllByRecursion}
use Rattle.hph_wasm.specs.declared.module.Func.{Func}
use Rattle.hph_wasm.specs.declared.module.Module.{Module}
use Rattle.hph_wasm.specs.Functions.{imported_functions}
use Rattle.hph_wasm.specs.Validity.{IsFunc}
use Rattle.hph_wasm.specs.ModuleValidity.{IsValidOutside, IsValid}
use Rattle.hph_wasm.specs.Faults.{IsFirstInvalid, in_body, HasOneFirst}
use Rattle.hph_wvalid.specs.declared.validator.ValidFault.{ValidFault}
use Rattle.hph_wvalid.specs.declared.validator.ValidFault.TheVariants.{Invalid, NoMemory}
use Rattle.hph_wvalid.specs.Functions.{IsFaultOf}
use Rattle.hph_wvalid.specs.Answers.{IsFaultIn, IsAt, IsNoMemory}

-- The first function with a fault has the module's first one.
pub fault_at : (m : Module) (n k number : ℕ) (func : Func) → IsValidOutside m → slice_get m.funcs n ≡ Some func →
    AllByRecursion (IsFunc m) (take n m.funcs) → IsFaultOf m func k → number ≡ length (imported_functions m.imports) + n → IsFirstInvalid m number k
fault_at m n k number func valid there before (ty, known, fault) e =
    subst (λ f. IsFirstInvalid m f k) (sym e) (in_body n k func ty valid there known before fault)

-- Where the module is valid, only memory can have been missing.
pub accepted_by : (m : Module) → HasOneFirst m → (fault : ValidFault) → IsFaultIn m fault → IsValid m → IsNoMemory fault
accepted_by m one (Invalid f k) told valid = one.1 f k valid told
accepted_by m one NoMemory told valid = tt

-- Where there is a first fault, it is the one that is told.
pub refused_by : (m : Module) → HasOneFirst m → (fault : ValidFault) → IsFaultIn m fault → (f k : ℕ) → IsFirstInvalid m f k → IsAt f k fault
refused_by m one (Invalid g j) told f k first = one.0 g f j k told first
refused_by m one NoMemory told f k first = tt
