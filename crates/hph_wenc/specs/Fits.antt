-- What the binary format asks of the numbers, counts and names of a module, and the module's types keep: numbers of 32 or of 64 bits, counts
-- of 32 bits, and names in UTF-8 (sections 2.2, 5.1.3 and 5.2.4 of the WebAssembly Core Specification 1.0).
use Rattle.std.specs.Prelude.{◌<◌, ◌^◌, ℕ, List, length, map, IfSome, FitsSigned, IsUtf8}
use Rattle.std.specs.Int.{w32, w64}
use Rattle.std.specs.List.{AllByRecursion}
use Rattle.hph_wasm.specs.ModuleGrammar.{type_of_func}
use Rattle.hph_wasm.specs.declared.types.Limits.{Limits}
use Rattle.hph_wasm.specs.declared.instr.MemArg.{MemArg}
use Rattle.hph_wasm.specs.declared.instr.Instr.{Instr, Block', Loop', If', Br, BrIf, BrTable, Call, CallIndirect, LocalGet, LocalSet, LocalTee, GlobalGet, GlobalSet, Load, LoadNarrow, Store, StoreNarrow, I32Const, I64Const, Row_of-Instr, end_of-Instr, more_of-Instr, Held-Instr-If-2, None', Some'}
use Rattle.hph_wasm.specs.declared.module.ImportDesc.{ImportDesc}
use Rattle.hph_wasm.specs.declared.module.ImportDesc.TheVariants as import_desc
use Rattle.hph_wasm.specs.declared.module.Import.{Import}
use Rattle.hph_wasm.specs.declared.module.Func.{Func}
use Rattle.hph_wasm.specs.declared.module.Global.{Global}
use Rattle.hph_wasm.specs.declared.module.ExportDesc.{ExportDesc}
use Rattle.hph_wasm.specs.declared.module.ExportDesc.TheVariants as export_desc
use Rattle.hph_wasm.specs.declared.module.Export.{Export}
use Rattle.hph_wasm.specs.declared.module.Element.{Element}
use Rattle.hph_wasm.specs.declared.module.Segment.{Segment}
use Rattle.hph_wasm.specs.declared.module.Module.{Module}

-- an index has 32 bits
abbrev pub IndexFits : ℕ → Type 0
IndexFits n = n < 2 ^ 32

-- so has each of a vector of them, and their count
abbrev pub IndicesFit : List ℕ → Type 0
IndicesFit ns = (length ns < 2 ^ 32) × AllByRecursion IndexFits ns

-- both bounds have 32 bits
abbrev pub LimitsFit : Limits → Type 0
LimitsFit limits = (limits.min < 2 ^ 32) × IfSome limits.max (λ max. max < 2 ^ 32)

-- a type's number has 32 bits, or the bounds fit
abbrev pub ImportDescFits : ImportDesc → Type 0
ImportDescFits (import_desc.Func ty) = IndexFits ty
ImportDescFits (import_desc.Table limits) = LimitsFit limits
ImportDescFits (import_desc.Memory limits) = LimitsFit limits
ImportDescFits (import_desc.Global ty) = Unit {0}

-- both names are text
abbrev pub ImportFits : Import → Type 0
ImportFits i = IsUtf8 i.module × IsUtf8 i.name × ImportDescFits i.desc

-- the number of what is exported has 32 bits
abbrev pub ExportDescFits : ExportDesc → Type 0
ExportDescFits (export_desc.Func func) = IndexFits func
ExportDescFits (export_desc.Table table) = IndexFits table
ExportDescFits (export_desc.Memory memory) = IndexFits memory
ExportDescFits (export_desc.Global global) = IndexFits global

-- the name is text
abbrev pub ExportFits : Export → Type 0
ExportFits e = IsUtf8 e.name × ExportDescFits e.desc

-- the alignment and the offset have 32 bits
abbrev pub MemArgFits : MemArg → Type 0
MemArgFits at = (at.align < 2 ^ 32) × (at.offset < 2 ^ 32)

-- what is asked of what stands behind an opcode that no block begins with
abbrev pub ImmediatesFit : Instr → Type 0
ImmediatesFit (Br label) = IndexFits label
ImmediatesFit (BrIf label) = IndexFits label
ImmediatesFit (BrTable labels label) = IndicesFit labels × IndexFits label
ImmediatesFit (Call func) = IndexFits func
ImmediatesFit (CallIndirect ty) = IndexFits ty
ImmediatesFit (LocalGet local) = IndexFits local
ImmediatesFit (LocalSet local) = IndexFits local
ImmediatesFit (LocalTee local) = IndexFits local
ImmediatesFit (GlobalGet global) = IndexFits global
ImmediatesFit (GlobalSet global) = IndexFits global
ImmediatesFit (Load t at) = MemArgFits at
ImmediatesFit (LoadNarrow part at) = MemArgFits at
ImmediatesFit (Store t at) = MemArgFits at
ImmediatesFit (StoreNarrow part at) = MemArgFits at
ImmediatesFit (I32Const value) = FitsSigned w32 value
ImmediatesFit (I64Const value) = FitsSigned w64 value
ImmediatesFit i = Unit {0}

abbrev mutual
  pub InstrFits : Instr → Type 0
  InstrFits (Block' ty shape body) = RowFits body
  InstrFits (Loop' ty shape body) = RowFits body
  InstrFits (If' ty shape body other) = RowFits body × OtherwiseFits other
  InstrFits i = ImmediatesFit i

  -- each of the instructions inside a block
  pub RowFits : {n : _} → Row_of-Instr n → Type 0
  RowFits end_of-Instr = Unit {0}
  RowFits (more_of-Instr i rest) = InstrFits i × RowFits rest

  -- and in a second branch, where there is one
  pub OtherwiseFits : Held-Instr-If-2 → Type 0
  OtherwiseFits None' = Unit {0}
  OtherwiseFits (Some' shape body) = RowFits body

-- each instruction fits
abbrev pub ExpressionFits : List Instr → Type 0
ExpressionFits body = AllByRecursion InstrFits body

-- the value that it begins with fits
abbrev pub GlobalFits : Global → Type 0
GlobalFits g = ExpressionFits g.init

-- the table's number and the functions' have 32 bits, and the offset fits
abbrev pub ElementFits : Element → Type 0
ElementFits e = IndexFits e.table × ExpressionFits e.offset × IndicesFit e.funcs

-- the body fits
abbrev pub CodeFits : Func → Type 0
CodeFits f = ExpressionFits f.body

-- the memory's number has 32 bits, and the offset fits
abbrev pub SegmentFits : Segment → Type 0
SegmentFits s = IndexFits s.memory × ExpressionFits s.offset

-- each thing of each section fits
pub record ModuleFits (m : Module) : Type 0 where
  pub imports : AllByRecursion ImportFits m.imports
  pub functions : AllByRecursion IndexFits (map type_of_func m.funcs)
  pub tables : AllByRecursion LimitsFit m.tables
  pub memories : AllByRecursion LimitsFit m.memories
  pub globals : AllByRecursion GlobalFits m.globals
  pub exports : AllByRecursion ExportFits m.exports
  pub elements : AllByRecursion ElementFits m.elements
  pub codes : AllByRecursion CodeFits m.funcs
  pub segments : AllByRecursion SegmentFits m.segments
