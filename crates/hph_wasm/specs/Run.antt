-- A module's run on a host: from the call of its function main, with its globals, its table and its memory as instantiation
-- leaves them (Core Specification 1.0, 4.5.4 and 4.5.5).
use Rattle.std.specs.Prelude.{◌≡◌, ◌≤◌, ◌⊎◌, ℕ, zero, suc, List, [], ◌∷◌, ◌++◌, length, take, Option, Some, None, if◌then◌else◌, slice_get, bytes_eq, codes}
use Rattle.std.specs.List.{AllByRecursion}
use Rattle.hph_wasm.specs.declared.types.FuncType.{FuncType}
use Rattle.hph_wasm.specs.declared.module.ImportDesc.{ImportDesc}
use Rattle.hph_wasm.specs.declared.module.ImportDesc.TheVariants as import_desc
use Rattle.hph_wasm.specs.declared.module.Import.{Import}
use Rattle.hph_wasm.specs.declared.module.ExportDesc.{ExportDesc}
use Rattle.hph_wasm.specs.declared.module.ExportDesc.TheVariants as export_desc
use Rattle.hph_wasm.specs.declared.module.Export.{Export}
use Rattle.hph_wasm.specs.declared.module.Module.{Module}
use Rattle.hph_wasm.specs.Choice.{if_some}
use Rattle.hph_wasm.specs.Functions.{Function, Imported, Defined, functions, func_type}
use Rattle.hph_wasm.specs.Instantiation.{globals_at_start, memory_at_start, SegmentsFit, IsFirstMisfit}
use Rattle.hph_wasm.specs.Outcome.{Trap, More, Outcome, IsOver, IsPrefix}
use Rattle.hph_wasm.specs.Configuration.{Reply, Goes, Stops, Host, Configuration, Running, Calling, Trapped, Stuck, Ended}
use Rattle.hph_wasm.specs.Reduction.{step, reduce}
use Rattle.hph_wasm.specs.Place.{trap_at}

-- The number of an exported function.
abbrev pub function_of : ExportDesc → Option ℕ
function_of (export_desc.Func f) = Some f
function_of _ = None

-- The function that is exported under a name.
abbrev pub exported_function : List ℕ → List Export → Option ℕ
exported_function name [] = None
exported_function name (export ∷ exports) = if bytes_eq export.name name then function_of export.desc else exported_function name exports

-- The call of a function from outside, before its first reduction.
abbrev pub start : {H E : Type 0} → H → Module → ℕ → Configuration H E
start state m f = Calling f [] [] (record {
  locals = [];
  labels = [];
  frames = [];
  store = record { host = state; memory = memory_at_start m; globals = globals_at_start m };
})

-- What an observer sees. One that is stuck is seen as trapped there; runs of valid modules never are.
abbrev pub outcome_of : {H E : Type 0} → Host H E → Module → Configuration H E → Outcome E
outcome_of host m (Running code values at) = record { output = host.output at.store.host; end = More }
outcome_of host m (Calling f rest values at) = record { output = host.output at.store.host; end = More }
outcome_of host m (Trapped code at) = record { output = host.output at.store.host; end = trap_at m code at }
outcome_of host m (Stuck code at) = record { output = host.output at.store.host; end = trap_at m code at }
outcome_of host m (Ended end h) = record { output = host.output h; end = end }

-- A run from a function that may not be there: then nothing runs.
abbrev pub run_from : {H E : Type 0} → Host H E → H → Module → Option ℕ → ℕ → Outcome E
run_from host state m None n = record { output = host.output state; end = Trap 0 0 }
run_from host state m (Some f) n = outcome_of host m (reduce host m n (start state m f))

-- What a module has printed, and whether and how it has ended, after at most so many reductions from the call of its function
-- main, with the host's state at that call.
abbrev pub wasm : {H E : Type 0} → Host H E → H → Module → ℕ → Outcome E
wasm host state m n = run_from host state m (exported_function (codes "main") m.exports) n

-- The number of a function of the module's own that a call enters.
abbrev pub entered_function : Function → ℕ → List ℕ
entered_function (Imported import number) f = []
entered_function (Defined func) f = f ∷ []

-- The function that one reduction to this configuration enters.
abbrev pub entered : {H E : Type 0} → Module → (before after : Configuration H E) → List ℕ
entered m (Calling f rest values at) (Running code values' at') =
    if_some (slice_get (functions m) f) [] (λ function. entered_function function f)
entered m _ _ = []

-- The functions of the module's own that so many reductions enter, in turn.
abbrev pub entered_in : {H E : Type 0} → Host H E → Module → ℕ → Configuration H E → List ℕ
entered_in host m zero c = []
entered_in host m (suc n) c = entered m c (step host m c) ++ entered_in host m n (step host m c)

-- The same of a run from a function that may not be there.
abbrev pub invoked_from : {H E : Type 0} → Host H E → H → Module → Option ℕ → ℕ → List ℕ
invoked_from host state m None n = []
invoked_from host state m (Some f) n = entered_in host m n (start state m f)

-- The functions of the module's own that a run has entered after at most so many reductions, in turn, by number.
abbrev pub invoked : {H E : Type 0} → Host H E → H → Module → ℕ → List ℕ
invoked host state m n = invoked_from host state m (exported_function (codes "main") m.exports) n

-- What a run has entered is never taken back, and is all once the run is over.
pub record IsEntering {E : Type 0} (runs : ℕ → Outcome E) (entering : ℕ → List ℕ) : Type 0 where
  pub grows : (n k : ℕ) → n ≤ k → IsPrefix (entering n) (entering k)
  pub stays : (n k : ℕ) → IsOver (runs n) → n ≤ k → entering k ≡ entering n

-- The host has what is imported: a function, at its type. No host has tables, memories and globals.
abbrev pub HasThing : {H E : Type 0} → Host H E → Module → Import → ImportDesc → Type 0
HasThing host m import (import_desc.Func number) = (ty : FuncType) × (slice_get m.types number ≡ Some ty) ×
    (row : ℕ) × (host.row import.«module» import.name ty ≡ Some row)
HasThing host m import _ = ⊥

-- The same of an import.
abbrev pub HasImport : {H E : Type 0} → Host H E → Module → Import → Type 0
HasImport host m import = HasThing host m import import.desc

-- The module has a function main that takes and gives nothing.
abbrev pub HasMain : Module → Type 0
HasMain m = (f : ℕ) × (exported_function (codes "main") m.exports ≡ Some f) ×
    (func_type m f ≡ Some (record { params = []; results = [] }))

-- The host has all that the module imports, and the module has its main.
pub record IsLinked {H E : Type 0} (host : Host H E) (m : Module) : Type 0 where
  pub imports : AllByRecursion (HasImport host m) m.imports
  pub main : HasMain m

-- The first import that the host doesn't have; where it has all, and there is no main, how many imports there are.
abbrev pub IsFirstUnlinked : {H E : Type 0} → Host H E → Module → ℕ → Type 0
IsFirstUnlinked host m k = AllByRecursion (HasImport host m) (take k m.imports) × (
    ((import : Import) × (slice_get m.imports k ≡ Some import) × (HasImport host m import → ⊥)) ⊎
    ((k ≡ length m.imports) × (HasMain m → ⊥)))

-- A reply's output goes on from that output.
abbrev pub KeepsOutput : {H E : Type 0} → Host H E → List ℕ → Reply H E → Type 0
KeepsOutput host output (Goes h result) = IsPrefix output (host.output h)
KeepsOutput host output (Stops h reason) = IsPrefix output (host.output h)

-- No call takes back what was printed.
abbrev pub NeverTakesBack : {H E : Type 0} → Host H E → Type 0
NeverTakesBack {H} host = (row : ℕ) (h : H) (arguments memory : List ℕ) →
    KeepsOutput host (host.output h) (host.effect row h arguments memory)

-- What keeps a module from running.
pub data Obstacle : Type 0 where
  Unlinked : (import : ℕ) → Obstacle
  Misfit : (segment : ℕ) → Obstacle

-- The first that does: the host is asked before the segments are looked at.
pub data IsFirstObstacle {H E : Type 0} (host : Host H E) (m : Module) : Obstacle → Type 0 where
  unlinked : (k : ℕ) → IsFirstUnlinked host m k → IsFirstObstacle host m (Unlinked k)
  misfit : (k : ℕ) → IsLinked host m → IsFirstMisfit m k → IsFirstObstacle host m (Misfit k)

-- A module that runs on a host.
pub record IsReady {H E : Type 0} (host : Host H E) (m : Module) : Type 0 where
  pub linked : IsLinked host m
  pub fit : SegmentsFit m

-- There is one first obstacle at most, and none before a module that is ready.
abbrev pub HasOneObstacle : {H E : Type 0} → Host H E → Module → Type 0
HasOneObstacle host m = ((a b : Obstacle) → IsFirstObstacle host m a → IsFirstObstacle host m b → a ≡ b) ×
    ((a : Obstacle) → IsReady host m → IsFirstObstacle host m a → ⊥)
