-- Validity of modules (Core Specification 1.0, 3.2 and 3.4): what stands outside code, and the bodies of functions.
use Rattle.std.specs.Prelude.{◌≡◌, ◌≢◌, ◌<◌, ◌≤◌, ◌^◌, ℕ, List, [], ◌∷◌, length, false, Some, IfSome, AllPairs, slice_get}
use Rattle.std.specs.List.{AllByRecursion}
use Rattle.hph_wasm.specs.declared.instr.Instr.{Instr, GlobalGet, I32Const, I64Const}
use Rattle.hph_wasm.specs.declared.types.ValType.TheVariants.{I32}
use Rattle.hph_wasm.specs.declared.types.FuncType.{FuncType}
use Rattle.hph_wasm.specs.declared.types.Limits.{Limits}
use Rattle.hph_wasm.specs.declared.types.GlobalType.{GlobalType}
use Rattle.hph_wasm.specs.declared.module.ImportDesc.{ImportDesc}
use Rattle.hph_wasm.specs.declared.module.ImportDesc.TheVariants as import_desc
use Rattle.hph_wasm.specs.declared.module.ExportDesc.{ExportDesc}
use Rattle.hph_wasm.specs.declared.module.ExportDesc.TheVariants as export_desc
use Rattle.hph_wasm.specs.declared.module.Global.{Global}
use Rattle.hph_wasm.specs.declared.module.Export.{Export}
use Rattle.hph_wasm.specs.declared.module.Element.{Element}
use Rattle.hph_wasm.specs.declared.module.Segment.{Segment}
use Rattle.hph_wasm.specs.declared.module.Module.{Module}
use Rattle.hph_wasm.specs.Functions.{functions, tables, memories, imported_globals, globals}
use Rattle.hph_wasm.specs.Validity.{Context, IsExpression, IsFunc}

-- Limits within a range (3.2.1).
abbrev pub IsLimits : ℕ → Limits → Type 0
IsLimits range limits = (limits.min ≤ range) × IfSome limits.max (λ max. (max ≤ range) × (limits.min ≤ max))

-- A table has at most 2^32 entries (3.2.3).
abbrev pub IsTable : Limits → Type 0
IsTable limits = IsLimits (2 ^ 32) limits

-- A memory has at most 65536 pages (3.2.4).
abbrev pub IsMemory : Limits → Type 0
IsMemory limits = IsLimits 65536 limits

-- A function type has at most one result (3.2.2).
abbrev pub IsFuncType : FuncType → Type 0
IsFuncType ty = length ty.results ≤ 1

-- The type of an import is there, or is itself valid (3.4.9).
abbrev pub IsImportDesc : Module → ImportDesc → Type 0
IsImportDesc m (import_desc.Func ty) = ty < length m.types
IsImportDesc m (import_desc.Table limits) = IsTable limits
IsImportDesc m (import_desc.Memory limits) = IsMemory limits
IsImportDesc m (import_desc.Global ty) = Unit {0}

-- What is exported is there (3.4.8).
abbrev pub IsExportDesc : Module → ExportDesc → Type 0
IsExportDesc m (export_desc.Func f) = f < length (functions m)
IsExportDesc m (export_desc.Table t) = t < length (tables m)
IsExportDesc m (export_desc.Memory n) = n < length (memories m)
IsExportDesc m (export_desc.Global x) = x < length (globals m)

-- Outside of functions there are no locals and labels.
abbrev pub outer_context : Context
outer_context = record { locals = []; labels = []; result = [] }

-- Constant instructions, where globals have these types: a constant, and the value of a global that can't be set (3.3.7.2).
abbrev pub IsConstant : List GlobalType → Instr → Type 0
IsConstant types (I32Const z) = Unit {0}
IsConstant types (I64Const z) = Unit {0}
IsConstant types (GlobalGet x) = (ty : GlobalType) × (slice_get types x ≡ Some ty) × (ty.mutable ≡ false)
IsConstant types _ = ⊥

-- A global begins with a constant expression of its type, which sees imported globals alone (3.4.4, 3.4.10).
abbrev pub IsGlobalDefinition : Module → Global → Type 0
IsGlobalDefinition m global = IsExpression m outer_context global.init (global.ty.value ∷ []) ×
    AllByRecursion (IsConstant (imported_globals m.imports)) global.init

-- An offset is a constant expression of type i32, which sees all globals (3.4.5, 3.4.6).
abbrev pub IsOffset : Module → List Instr → Type 0
IsOffset m code = IsExpression m outer_context code (I32 ∷ []) × AllByRecursion (IsConstant (globals m)) code

-- An element segment's table is there, and so are its functions (3.4.5).
abbrev pub IsElement : Module → Element → Type 0
IsElement m element = (element.table < length (tables m)) × IsOffset m element.offset ×
    AllByRecursion (λ f. f < length (functions m)) element.funcs

-- A data segment's memory is there (3.4.6).
abbrev pub IsSegment : Module → Segment → Type 0
IsSegment m segment = (segment.memory < length (memories m)) × IsOffset m segment.offset

-- Each name is exported once (3.4.10).
abbrev pub IsNamedOnce : List Export → Type 0
IsNamedOnce exports = AllPairs (λ a b. a.name ≢ b.name) exports

-- There is at most one table, an imported one or the module's own (3.4.10).
abbrev pub HasOneTable : Module → Type 0
HasOneTable m = length (tables m) ≤ 1

-- The same of memories.
abbrev pub HasOneMemory : Module → Type 0
HasOneMemory m = length (memories m) ≤ 1

-- What stands outside code is valid, the types of functions among it (3.4.10).
pub record IsValidOutside (m : Module) : Type 0 where
  pub types : AllByRecursion IsFuncType m.types
  pub imports : AllByRecursion (λ import. IsImportDesc m import.desc) m.imports
  pub func_types : AllByRecursion (λ func. func.ty < length m.types) m.funcs
  pub tables : AllByRecursion IsTable m.tables
  pub one_table : HasOneTable m
  pub memories : AllByRecursion IsMemory m.memories
  pub one_memory : HasOneMemory m
  pub globals : AllByRecursion (IsGlobalDefinition m) m.globals
  pub exports : AllByRecursion (λ export. IsExportDesc m export.desc) m.exports
  pub named_once : IsNamedOnce m.exports
  pub elements : AllByRecursion (IsElement m) m.elements
  pub segments : AllByRecursion (IsSegment m) m.segments

-- A valid module (3.4.10).
pub record IsValid (m : Module) : Type 0 where
  pub outside : IsValidOutside m
  pub funcs : AllByRecursion (IsFunc m) m.funcs
