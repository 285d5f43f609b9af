-- What a run looks up by number, as the module has it.
use Rattle.std.specs.Prelude.{◌≡◌, ◌⊎◌, ℕ, List, length, slice_get, Option, Some, None}
use Rattle.hph_wasm.specs.declared.types.FuncType.{FuncType}
use Rattle.hph_wasm.specs.declared.instr.Instr.{Instr}
use Rattle.hph_wasm.specs.declared.value.Value.{Value}
use Rattle.hph_wasm.specs.declared.module.Module.{Module}
use Rattle.hph_wasm.specs.Functions.{Function, Imported, Defined, functions}
use Rattle.hph_wasm.specs.Instantiation.{table_of}
use Rattle.hph_wasm.specs.Configuration.{Host, Setting, Configuration, Calling}
use Rattle.hph_wasm.specs.Reduction.{entry_call}
use Rattle.hph_wmach.specs.declared.program.Callee.{Callee}
use Rattle.hph_wmach.specs.declared.program.Callee.TheVariants.{Own, OfHost}
use Rattle.hph_wmach.specs.declared.program.Program.{Program}
use Rattle.hph_wstate.specs.Core.{count}

-- The type of a function.
abbrev pub type_of_callee : Callee → FuncType
type_of_callee (Own own) = own.ty.now
type_of_callee (OfHost host) = host.ty.now

-- A function is the module's own with its type, or one that the host has at its type.
abbrev pub CalleeFits : {H E : Type 0} → Host H E → Module → Callee → Function → Type 0
CalleeFits host m (Own own) (Defined func) = (own.func.now ≡ func) × (slice_get m.types func.ty ≡ Some own.ty.now) ×
    (count own.gives ≡ length own.ty.now.results)
CalleeFits host m (OfHost known) (Imported import number) = (slice_get m.types number ≡ Some known.ty.now) ×
    (host.row import.«module» import.name known.ty.now ≡ Some known.row)
CalleeFits host m _ _ = ⊥

-- The same where there may be no function.
abbrev pub EntryFits : {H E : Type 0} → Host H E → Module → Option Callee → Option Function → Type 0
EntryFits host m None None = Unit {0}
EntryFits host m (Some callee) (Some function) = CalleeFits host m callee function
EntryFits host m _ _ = ⊥

-- The types, functions and table are the module's, on a host.
pub record Tells {H E : Type 0} (host : Host H E) (m : Module) (program : Program) : Type 0 where
  pub types : program.types.now ≡ m.types
  pub callees : (f : ℕ) → EntryFits host m (slice_get program.callees f) (slice_get (functions m) f)
  pub table : program.table ≡ table_of m

-- What an entry of the table says of a call of a type.
abbrev pub EntryTold : {H E : Type 0} → Host H E → Module → ℕ → ℕ → Option ℕ → Type 0
EntryTold {H} {E} host m place number (Some f) = (rest : List Instr) (values : List Value) (at : Setting H) (trap stuck : Configuration H E) →
    entry_call host m (slice_get (table_of m) place) number rest values at trap stuck ≡ Calling f rest values at
EntryTold {H} {E} host m place number None = (rest : List Instr) (values : List Value) (at : Setting H) (trap stuck : Configuration H E) →
    (entry_call host m (slice_get (table_of m) place) number rest values at trap stuck ≡ trap) ⊎
    (entry_call host m (slice_get (table_of m) place) number rest values at trap stuck ≡ stuck)
