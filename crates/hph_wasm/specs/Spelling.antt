-- The spelling of a module that is written: each number in its shortest form, the longest runs of equal locals, no empty and no custom sections.
-- That it is one of those that the binary format allows is the contract of what writes it.
use Rattle.std.specs.Prelude.{ℕ, ◌+◌, ◌^◌, ◌<◌, List, [], ◌∷◌, ◌++◌, length, flat_map, Option, Some, None, Bool, true, false, if◌then◌else◌}
use Rattle.std.specs.List.{AllByRecursion}
use Rattle.hph_wasm.specs.Leb128.{u32_bytes, i32_bytes, i64_bytes}
use Rattle.hph_wasm.specs.Grammar.{type_byte, result_byte, mutable_byte}
use Rattle.hph_wasm.specs.Codes.{opcode, else_code, end_code}
use Rattle.hph_wasm.specs.ModuleGrammar.{header}
use Rattle.hph_wasm.specs.declared.types.ValType.{ValType}
use Rattle.hph_wasm.specs.declared.types.ValType.TheVariants.{I32, I64}
use Rattle.hph_wasm.specs.declared.types.FuncType.{FuncType}
use Rattle.hph_wasm.specs.declared.types.Limits.{Limits}
use Rattle.hph_wasm.specs.declared.types.GlobalType.{GlobalType}
use Rattle.hph_wasm.specs.declared.instr.MemArg.{MemArg}
use Rattle.hph_wasm.specs.declared.instr.Instr.{Instr, Block', Loop', If', Br, BrIf, BrTable, Call, CallIndirect, LocalGet, LocalSet, LocalTee, GlobalGet, GlobalSet, Load, LoadNarrow, Store, StoreNarrow, I32Const, I64Const, Row_of-Instr, end_of-Instr, more_of-Instr, Held-Instr-If-2, None', Some'}
use Rattle.hph_wasm.specs.declared.module.ImportDesc.{ImportDesc}
use Rattle.hph_wasm.specs.declared.module.ImportDesc.TheVariants as import_desc
use Rattle.hph_wasm.specs.declared.module.Import.{Import}
use Rattle.hph_wasm.specs.declared.module.Func.{Func}
use Rattle.hph_wasm.specs.declared.module.Global.{Global}
use Rattle.hph_wasm.specs.declared.module.ExportDesc.{ExportDesc}
use Rattle.hph_wasm.specs.declared.module.ExportDesc.TheVariants as export_desc
use Rattle.hph_wasm.specs.declared.module.Export.{Export}
use Rattle.hph_wasm.specs.declared.module.Element.{Element}
use Rattle.hph_wasm.specs.declared.module.Segment.{Segment}
use Rattle.hph_wasm.specs.declared.module.Module.{Module}

-- how many things, and each of them
abbrev pub vector_bytes : {X : Type 0} → (X → List ℕ) → List X → List ℕ
vector_bytes f xs = u32_bytes (length xs) ++ flat_map f xs

-- how many bytes, and the bytes
abbrev pub counted_bytes : List ℕ → List ℕ
counted_bytes bytes = u32_bytes (length bytes) ++ bytes

abbrev pub value_type_bytes : ValType → List ℕ
value_type_bytes t = type_byte t ∷ []

abbrev pub func_type_bytes : FuncType → List ℕ
func_type_bytes ty = 0x60 ∷ (vector_bytes value_type_bytes ty.params ++ vector_bytes value_type_bytes ty.results)

abbrev pub between_bytes : ℕ → Option ℕ → List ℕ
between_bytes min None = 0x00 ∷ u32_bytes min
between_bytes min (Some max) = 0x01 ∷ (u32_bytes min ++ u32_bytes max)

abbrev pub limits_bytes : Limits → List ℕ
limits_bytes limits = between_bytes limits.min limits.max

abbrev pub table_type_bytes : Limits → List ℕ
table_type_bytes limits = 0x70 ∷ limits_bytes limits

abbrev pub global_type_bytes : GlobalType → List ℕ
global_type_bytes ty = type_byte ty.value ∷ mutable_byte ty.mutable ∷ []

abbrev pub memory_argument_bytes : MemArg → List ℕ
memory_argument_bytes at = u32_bytes at.align ++ u32_bytes at.offset

-- what stands behind an opcode that no block begins with
abbrev pub immediate_bytes : Instr → List ℕ
immediate_bytes (Br label) = u32_bytes label
immediate_bytes (BrIf label) = u32_bytes label
immediate_bytes (BrTable labels label) = vector_bytes u32_bytes labels ++ u32_bytes label
immediate_bytes (Call func) = u32_bytes func
immediate_bytes (CallIndirect ty) = u32_bytes ty ++ 0x00 ∷ []
immediate_bytes (LocalGet local) = u32_bytes local
immediate_bytes (LocalSet local) = u32_bytes local
immediate_bytes (LocalTee local) = u32_bytes local
immediate_bytes (GlobalGet global) = u32_bytes global
immediate_bytes (GlobalSet global) = u32_bytes global
immediate_bytes (Load t at) = memory_argument_bytes at
immediate_bytes (LoadNarrow part at) = memory_argument_bytes at
immediate_bytes (Store t at) = memory_argument_bytes at
immediate_bytes (StoreNarrow part at) = memory_argument_bytes at
immediate_bytes (I32Const value) = i32_bytes value
immediate_bytes (I64Const value) = i64_bytes value
immediate_bytes i = []

abbrev mutual
  pub instr_bytes : Instr → List ℕ
  instr_bytes (Block' ty shape body) = opcode (Block' ty shape body) ∷ (result_byte ty.result ∷ (row_bytes body ++ end_code ∷ []))
  instr_bytes (Loop' ty shape body) = opcode (Loop' ty shape body) ∷ (result_byte ty.result ∷ (row_bytes body ++ end_code ∷ []))
  instr_bytes (If' ty shape body other) = opcode (If' ty shape body other) ∷ (result_byte ty.result ∷ (row_bytes body ++ otherwise_bytes other))
  instr_bytes i = opcode i ∷ immediate_bytes i

  pub row_bytes : {n : _} → Row_of-Instr n → List ℕ
  row_bytes end_of-Instr = []
  row_bytes (more_of-Instr i rest) = instr_bytes i ++ row_bytes rest

  pub otherwise_bytes : Held-Instr-If-2 → List ℕ
  otherwise_bytes None' = end_code ∷ []
  otherwise_bytes (Some' shape body) = else_code ∷ (row_bytes body ++ end_code ∷ [])

abbrev pub expression_bytes : List Instr → List ℕ
expression_bytes body = flat_map instr_bytes body ++ end_code ∷ []

abbrev pub import_desc_bytes : ImportDesc → List ℕ
import_desc_bytes (import_desc.Func ty) = 0x00 ∷ u32_bytes ty
import_desc_bytes (import_desc.Table limits) = 0x01 ∷ table_type_bytes limits
import_desc_bytes (import_desc.Memory limits) = 0x02 ∷ limits_bytes limits
import_desc_bytes (import_desc.Global ty) = 0x03 ∷ global_type_bytes ty

abbrev pub import_bytes : Import → List ℕ
import_bytes i = counted_bytes i.module ++ (counted_bytes i.name ++ import_desc_bytes i.desc)

abbrev pub global_bytes : Global → List ℕ
global_bytes g = global_type_bytes g.ty ++ expression_bytes g.init

abbrev pub export_desc_bytes : ExportDesc → List ℕ
export_desc_bytes (export_desc.Func func) = 0x00 ∷ u32_bytes func
export_desc_bytes (export_desc.Table table) = 0x01 ∷ u32_bytes table
export_desc_bytes (export_desc.Memory memory) = 0x02 ∷ u32_bytes memory
export_desc_bytes (export_desc.Global global) = 0x03 ∷ u32_bytes global

abbrev pub export_bytes : Export → List ℕ
export_bytes e = counted_bytes e.name ++ export_desc_bytes e.desc

abbrev pub element_bytes : Element → List ℕ
element_bytes e = u32_bytes e.table ++ (expression_bytes e.offset ++ vector_bytes u32_bytes e.funcs)

abbrev pub same_type : ValType → ValType → Bool
same_type I32 I32 = true
same_type I64 I64 = true
same_type _ _ = false

-- a local before the runs of those behind it
abbrev pub with_local : ValType → List (ℕ × ValType) → List (ℕ × ValType)
with_local t [] = (1, t) ∷ []
with_local t (run ∷ runs) = if same_type t run.1 then (run.0 + 1, t) ∷ runs else (1, t) ∷ run ∷ runs

-- the longest runs of equal locals
abbrev pub runs_of : List ValType → List (ℕ × ValType)
runs_of [] = []
runs_of (t ∷ locals) = with_local t (runs_of locals)

abbrev pub run_bytes : ℕ × ValType → List ℕ
run_bytes run = u32_bytes run.0 ++ value_type_bytes run.1

abbrev pub locals_bytes : List ValType → List ℕ
locals_bytes locals = vector_bytes run_bytes (runs_of locals)

abbrev pub code_bytes : Func → List ℕ
code_bytes f = counted_bytes (locals_bytes f.locals ++ expression_bytes f.body)

abbrev pub segment_bytes : Segment → List ℕ
segment_bytes s = u32_bytes s.memory ++ (expression_bytes s.offset ++ counted_bytes s.bytes)

-- a section, unless there is nothing in it
abbrev pub section_bytes : {X : Type 0} → ℕ → (X → List ℕ) → List X → List ℕ
section_bytes id f [] = []
section_bytes id f (x ∷ xs) = id ∷ counted_bytes (vector_bytes f (x ∷ xs))

abbrev pub type_index_bytes : Func → List ℕ
type_index_bytes f = u32_bytes f.ty

-- the sections behind the header, in their order
unfoldable pub spelling : Module → List ℕ
spelling m = header
    ++ (section_bytes 1 func_type_bytes m.types
    ++ (section_bytes 2 import_bytes m.imports
    ++ (section_bytes 3 type_index_bytes m.funcs
    ++ (section_bytes 4 table_type_bytes m.tables
    ++ (section_bytes 5 limits_bytes m.memories
    ++ (section_bytes 6 global_bytes m.globals
    ++ (section_bytes 7 export_bytes m.exports
    ++ (section_bytes 9 element_bytes m.elements
    ++ (section_bytes 10 code_bytes m.funcs
    ++ section_bytes 11 segment_bytes m.segments)))))))))

-- A module that can be written: its spelling, and the locals of each function, are fewer than 2^32, as the format's counts ask.
pub record IsWritable (m : Module) : Type 0 where
  pub short : length (spelling m) < 2 ^ 32
  pub few_locals : AllByRecursion (λ f. length f.locals < 2 ^ 32) m.funcs
