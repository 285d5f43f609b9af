-- The binary format of modules: section 5.5 of the WebAssembly Core Specification 1.0.
use Rattle.std.specs.Prelude.{◌≡◌, ◌<◌, ℕ, ◌^◌, List, [], ◌∷◌, length, map, flat_map, replicate, nat_eq, MatchBool, if◌then◌else◌}
use Rattle.std.specs.List.{AllByRecursion}
use Rattle.hph_wasm.specs.Leb128.{Unsigned}
use Rattle.hph_wasm.specs.Grammar.{Grammar, Exactly, Byte, ◌⊳◌, Each, Vector, Bytes, Named, Sized, ValueType, FunctionType, MemoryType, TableType, GlobalOf}
use Rattle.hph_wasm.specs.InstructionGrammar.{Expression}
use Rattle.hph_wasm.specs.declared.types.ValType.{ValType}
use Rattle.hph_wasm.specs.declared.types.FuncType.{FuncType}
use Rattle.hph_wasm.specs.declared.types.Limits.{Limits}
use Rattle.hph_wasm.specs.declared.instr.Instr.{Instr}
use Rattle.hph_wasm.specs.declared.module.ImportDesc.{ImportDesc}
use Rattle.hph_wasm.specs.declared.module.ImportDesc.TheVariants as import_desc
use Rattle.hph_wasm.specs.declared.module.Import.{Import}
use Rattle.hph_wasm.specs.declared.module.Func.{Func}
use Rattle.hph_wasm.specs.declared.module.Global.{Global}
use Rattle.hph_wasm.specs.declared.module.ExportDesc.{ExportDesc}
use Rattle.hph_wasm.specs.declared.module.ExportDesc.TheVariants as export_desc
use Rattle.hph_wasm.specs.declared.module.Export.{Export}
use Rattle.hph_wasm.specs.declared.module.Element.{Element}
use Rattle.hph_wasm.specs.declared.module.Segment.{Segment}
use Rattle.hph_wasm.specs.declared.module.Module.{Module}

-- imports (5.5.5)
abbrev pub ImportedThing : ImportDesc → Grammar
ImportedThing (import_desc.Func ty) = Byte 0x00 ⊳ Unsigned 32 ty
ImportedThing (import_desc.Table limits) = Byte 0x01 ⊳ TableType limits
ImportedThing (import_desc.Memory limits) = Byte 0x02 ⊳ MemoryType limits
ImportedThing (import_desc.Global ty) = Byte 0x03 ⊳ GlobalOf ty

abbrev pub Imported : Import → Grammar
Imported i = Named i.module ⊳ Named i.name ⊳ ImportedThing i.desc

-- globals (5.5.9)
abbrev pub GlobalWithValue : Global → Grammar
GlobalWithValue g = GlobalOf g.ty ⊳ Expression g.init

-- exports (5.5.10)
abbrev pub ExportedThing : ExportDesc → Grammar
ExportedThing (export_desc.Func func) = Byte 0x00 ⊳ Unsigned 32 func
ExportedThing (export_desc.Table table) = Byte 0x01 ⊳ Unsigned 32 table
ExportedThing (export_desc.Memory memory) = Byte 0x02 ⊳ Unsigned 32 memory
ExportedThing (export_desc.Global global) = Byte 0x03 ⊳ Unsigned 32 global

abbrev pub Exported : Export → Grammar
Exported e = Named e.name ⊳ ExportedThing e.desc

-- element segments (5.5.12)
abbrev pub Elements : Element → Grammar
Elements e = Unsigned 32 e.table ⊳ Expression e.offset ⊳ Vector (Unsigned 32) e.funcs

-- some locals of one type (5.5.13)
abbrev pub LocalRun : ℕ × ValType → Grammar
LocalRun run = Unsigned 32 run.0 ⊳ ValueType run.1

-- the locals that runs make
abbrev pub locals_of : List (ℕ × ValType) → List ValType
locals_of runs = flat_map (λ run. replicate run.0 run.1) runs

-- locals, in any runs that make these
pub record Locals (locals : List ValType) (bytes : List ℕ) : Type 0 where
  pub runs : List (ℕ × ValType)
  pub made : locals_of runs ≡ locals
  pub few : length locals < 2 ^ 32
  pub spelled : Vector LocalRun runs bytes

-- a function's code: its locals and its body, behind their size (5.5.13)
abbrev pub Code : List ValType × List Instr → Grammar
Code code = Sized (Locals code.0 ⊳ Expression code.1)

-- data segments (5.5.14)
abbrev pub Data : Segment → Grammar
Data s = Unsigned 32 s.memory ⊳ Expression s.offset ⊳ Bytes s.bytes

-- a section as it stands: its number, and its content behind its size (5.5.2)
abbrev pub RawSection : ℕ × List ℕ → Grammar
RawSection section = Byte section.0 ⊳ Bytes section.1

-- a custom section begins with a name (5.5.3)
abbrev pub BeginsWithName : List ℕ → Type 0
BeginsWithName content = (name : List ℕ) × (more : List ℕ) × (Named name ⊳ Exactly more) content

-- the sections that aren't custom
abbrev pub without_custom : List (ℕ × List ℕ) → List (ℕ × List ℕ)
without_custom [] = []
without_custom (section ∷ sections) = if nat_eq section.0 0 then without_custom sections else section ∷ without_custom sections

-- the first section has this number and spells these things, or there is none and there are no things (5.5.2); and what holds of the sections behind it
abbrev pub Section : {X : Type 0} → ℕ → (X → Grammar) → List X → (List (ℕ × List ℕ) → Type 0) → List (ℕ × List ℕ) → Type 0
Section id P xs next [] = (xs ≡ []) × next []
Section id P xs next (section ∷ sections) =
    MatchBool (nat_eq section.0 id) (Vector P xs section.1 × next sections) ((xs ≡ []) × next (section ∷ sections))

-- what the sections of a module spell: functions are the numbers of their types in one section, and code in another
pub record Parts : Type 0 where
  pub types : List FuncType
  pub imports : List Import
  pub functions : List ℕ
  pub tables : List Limits
  pub memories : List Limits
  pub globals : List Global
  pub exports : List Export
  pub elements : List Element
  pub codes : List (List ValType × List Instr)
  pub segments : List Segment

-- the sections of these parts, from each one on, in their order (5.5.15)
abbrev pub NoSections : List (ℕ × List ℕ) → Type 0
NoSections sections = sections ≡ []

-- 5.5.14
abbrev pub FromData : Parts → List (ℕ × List ℕ) → Type 0
FromData p = Section 11 Data p.segments NoSections

-- 5.5.13
abbrev pub FromCode : Parts → List (ℕ × List ℕ) → Type 0
FromCode p = Section 10 Code p.codes (FromData p)

-- 5.5.12
abbrev pub FromElements : Parts → List (ℕ × List ℕ) → Type 0
FromElements p = Section 9 Elements p.elements (FromCode p)

-- 5.5.10
abbrev pub FromExports : Parts → List (ℕ × List ℕ) → Type 0
FromExports p = Section 7 Exported p.exports (FromElements p)

-- 5.5.9
abbrev pub FromGlobals : Parts → List (ℕ × List ℕ) → Type 0
FromGlobals p = Section 6 GlobalWithValue p.globals (FromExports p)

-- 5.5.8
abbrev pub FromMemories : Parts → List (ℕ × List ℕ) → Type 0
FromMemories p = Section 5 MemoryType p.memories (FromGlobals p)

-- 5.5.7
abbrev pub FromTables : Parts → List (ℕ × List ℕ) → Type 0
FromTables p = Section 4 TableType p.tables (FromMemories p)

-- 5.5.6
abbrev pub FromFunctions : Parts → List (ℕ × List ℕ) → Type 0
FromFunctions p = Section 3 (Unsigned 32) p.functions (FromTables p)

-- 5.5.5
abbrev pub FromImports : Parts → List (ℕ × List ℕ) → Type 0
FromImports p = Section 2 Imported p.imports (FromFunctions p)

-- 5.5.4
abbrev pub FromTypes : Parts → List (ℕ × List ℕ) → Type 0
FromTypes p = Section 1 FunctionType p.types (FromImports p)

-- sections that spell these parts, custom ones skipped
pub record SpellsSections (p : Parts) (bytes : List ℕ) : Type 0 where
  pub sections : List (ℕ × List ℕ)
  pub stand : Each RawSection sections bytes
  pub named : AllByRecursion (λ section. section.0 ≡ 0 → BeginsWithName section.1) sections
  pub inside : FromTypes p (without_custom sections)

-- the magic number and the version that every module begins with (5.5.15)
abbrev pub header : List ℕ
header = 0x00 ∷ 0x61 ∷ 0x73 ∷ 0x6D ∷ 0x01 ∷ 0x00 ∷ 0x00 ∷ 0x00 ∷ []

abbrev pub type_of_func : Func → ℕ
type_of_func f = f.ty

abbrev pub code_of_func : Func → List ValType × List Instr
code_of_func f = (f.locals, f.body)

-- a module's parts; each function has a type's number and code, so there are as many of the one as of the other (5.5.15)
abbrev pub parts_of : Module → Parts
parts_of m = record {
  types = m.types;
  imports = m.imports;
  functions = map type_of_func m.funcs;
  tables = m.tables;
  memories = m.memories;
  globals = m.globals;
  exports = m.exports;
  elements = m.elements;
  codes = map code_of_func m.funcs;
  segments = m.segments;
}

-- these bytes spell the module
abbrev pub SpellsModule : List ℕ → Module → Type 0
SpellsModule bytes m = (Exactly header ⊳ SpellsSections (parts_of m)) bytes

-- some spelling of the module has fewer than 2^32 bytes
abbrev pub IsShort : Module → Type 0
IsShort m = (bytes : List ℕ) × SpellsModule bytes m × (length bytes < 2 ^ 32)
