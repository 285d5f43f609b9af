-- The parts of sections can be read in one way.
use Rattle.std.proofs.Common.{◌≡◌, ◌∙◌, ℕ, List, [], ◌∷◌, ◌++◌, refl, sym, ap, arith, Option, Some, None}
use Rattle.std.specs.Prelude.{Bool, true, false}
use Rattle.hph_wasm.specs.Grammar.{FunctionType, Between, MemoryType, TableType, mutable_byte, GlobalOf}
use Rattle.hph_wasm.specs.ModuleGrammar.{ImportedThing, Imported, GlobalWithValue, ExportedThing, Exported, Elements, LocalRun, locals_of, Locals, Code, Data}
use Rattle.hph_wasm.specs.declared.module.ImportDesc.{ImportDesc}
use Rattle.hph_wasm.specs.declared.module.ImportDesc.TheVariants as import_desc
use Rattle.hph_wasm.specs.declared.module.ExportDesc.{ExportDesc}
use Rattle.hph_wasm.specs.declared.module.ExportDesc.TheVariants as export_desc
use Rattle.hph_wasm.proofs.OneForm.{Alike, byte_form, OneForm, map-Alike, pair_form, along_form, behind_form, BeginsWith, BeginsWith-first, first_bytes_same}
use Rattle.hph_wasm.proofs.Leb128Laws.{unsigned_form}
use Rattle.hph_wasm.proofs.CountedForms.{vector_form, bytes_form, name_form, sized_form}
use Rattle.hph_wasm.proofs.OneInstruction.{value_type_form, expression_form}

-- the types of a function, the parameters first
pub function_type_form : OneForm FunctionType
function_type_form = along_form (λ ty. (ty.params, ty.results)) (λ x y e i. record { params = (e i).0; results = (e i).1 })
    (behind_form (0x60 ∷ []) (pair_form (vector_form value_type_form) (vector_form value_type_form)))

-- the byte that limits begin with
abbrev limits_byte : Option ℕ → ℕ
limits_byte None = 0x00
limits_byte (Some max) = 0x01

-- limits begin with that byte
begins_with_limits_byte : (min : ℕ) (max : Option ℕ) (f : List ℕ) → Between min max f → BeginsWith (limits_byte max) f
begins_with_limits_byte min None f p = BeginsWith-first 0x00 f p ([], p.first)
begins_with_limits_byte min (Some max) f p = BeginsWith-first 0x01 f p ([], p.first)

-- limits can be read in one way, whether there is a greatest size or not
limits_alike : (m n : ℕ) (a b : Option ℕ) (f g r s : List ℕ) → Between m a f → Between n b g → f ++ r ≡ g ++ s →
    Alike {X = ℕ × Option ℕ} (m, a) (n, b) f g r s
limits_alike m n None None f g r s p q e =
    map-Alike (λ min. (min, None)) ((behind_form (0x00 ∷ []) (unsigned_form 32)).alike m n f g r s p q e)
limits_alike m n (Some a) (Some b) f g r s p q e =
    map-Alike (λ limits. (limits.0, Some limits.1))
    ((behind_form (0x01 ∷ []) (pair_form (unsigned_form 32) (unsigned_form 32))).alike (m, a) (n, b) f g r s p q e)
limits_alike m n a b f g r s p q e =
    let same = first_bytes_same (limits_byte a) (limits_byte b) f g r s (begins_with_limits_byte m a f p)
    (begins_with_limits_byte n b g q) e in
    absurd (omega arith)

-- the type of a memory
pub memory_type_form : OneForm MemoryType
memory_type_form = record {
  alike = λ x y f g r s p q e. map-Alike (λ limits. record { min = limits.0; max = limits.1 })
      (limits_alike x.min y.min x.max y.max f g r s p q e);
}

-- the type of a table
pub table_type_form : OneForm TableType
table_type_form = behind_form (0x70 ∷ []) memory_type_form

-- whether a global can be set is determined by its byte
mutable_byte-determines : (x y : Bool) → mutable_byte x ≡ mutable_byte y → x ≡ y
mutable_byte-determines false false e = refl
mutable_byte-determines false true e = absurd (omega arith)
mutable_byte-determines true false e = absurd (omega arith)
mutable_byte-determines true true e = refl

-- the type of a global
pub global_type_form : OneForm GlobalOf
global_type_form = along_form (λ ty. (ty.value, ty.mutable)) (λ x y e i. record { value = (e i).0; mutable = (e i).1 })
    (pair_form value_type_form (along_form mutable_byte mutable_byte-determines byte_form))

-- the byte of an import's kind
abbrev import_byte : ImportDesc → ℕ
import_byte (import_desc.Func ty) = 0x00
import_byte (import_desc.Table limits) = 0x01
import_byte (import_desc.Memory limits) = 0x02
import_byte (import_desc.Global ty) = 0x03

-- an import's kind begins with it
begins_with_import_byte : (x : ImportDesc) (f : List ℕ) → ImportedThing x f → BeginsWith (import_byte x) f
begins_with_import_byte (import_desc.Func ty) f p = BeginsWith-first 0x00 f p ([], p.first)
begins_with_import_byte (import_desc.Table limits) f p = BeginsWith-first 0x01 f p ([], p.first)
begins_with_import_byte (import_desc.Memory limits) f p = BeginsWith-first 0x02 f p ([], p.first)
begins_with_import_byte (import_desc.Global ty) f p = BeginsWith-first 0x03 f p ([], p.first)

-- the kind of an import can be read in one way
imported_thing_alike : (x y : ImportDesc) (f g r s : List ℕ) → ImportedThing x f → ImportedThing y g → f ++ r ≡ g ++ s → Alike x y f g r s
imported_thing_alike (import_desc.Func a) (import_desc.Func b) f g r s p q e =
    map-Alike (λ ty. import_desc.Func ty) ((behind_form (0x00 ∷ []) (unsigned_form 32)).alike a b f g r s p q e)
imported_thing_alike (import_desc.Table a) (import_desc.Table b) f g r s p q e =
    map-Alike (λ limits. import_desc.Table limits) ((behind_form (0x01 ∷ []) table_type_form).alike a b f g r s p q e)
imported_thing_alike (import_desc.Memory a) (import_desc.Memory b) f g r s p q e =
    map-Alike (λ limits. import_desc.Memory limits) ((behind_form (0x02 ∷ []) memory_type_form).alike a b f g r s p q e)
imported_thing_alike (import_desc.Global a) (import_desc.Global b) f g r s p q e =
    map-Alike (λ ty. import_desc.Global ty) ((behind_form (0x03 ∷ []) global_type_form).alike a b f g r s p q e)
imported_thing_alike x y f g r s p q e =
    let same = first_bytes_same (import_byte x) (import_byte y) f g r s (begins_with_import_byte x f p) (begins_with_import_byte y g q)
    e in absurd (omega arith)

-- the kind of an import
import_kind_form : OneForm ImportedThing
import_kind_form = record { alike = imported_thing_alike }

-- an import, by its two names and its kind
pub import_form : OneForm Imported
import_form = along_form (λ i. (i.module, (i.name, i.desc))) (λ x y e i. record { «module» = (e i).0; name = (e i).1.0; desc = (e i).1.1 })
    (pair_form name_form (pair_form name_form import_kind_form))

-- a global, with the expression of its value
pub global_form : OneForm GlobalWithValue
global_form = along_form (λ g. (g.ty, g.init)) (λ x y e i. record { ty = (e i).0; init = (e i).1 })
    (pair_form global_type_form expression_form)

-- the byte of an export's kind
abbrev export_byte : ExportDesc → ℕ
export_byte (export_desc.Func func) = 0x00
export_byte (export_desc.Table table) = 0x01
export_byte (export_desc.Memory memory) = 0x02
export_byte (export_desc.Global global) = 0x03

-- an export's kind begins with it
begins_with_export_byte : (x : ExportDesc) (f : List ℕ) → ExportedThing x f → BeginsWith (export_byte x) f
begins_with_export_byte (export_desc.Func func) f p = BeginsWith-first 0x00 f p ([], p.first)
begins_with_export_byte (export_desc.Table table) f p = BeginsWith-first 0x01 f p ([], p.first)
begins_with_export_byte (export_desc.Memory memory) f p = BeginsWith-first 0x02 f p ([], p.first)
begins_with_export_byte (export_desc.Global global) f p = BeginsWith-first 0x03 f p ([], p.first)

-- the kind of an export can be read in one way
exported_thing_alike : (x y : ExportDesc) (f g r s : List ℕ) → ExportedThing x f → ExportedThing y g → f ++ r ≡ g ++ s → Alike x y f g r s
exported_thing_alike (export_desc.Func a) (export_desc.Func b) f g r s p q e =
    map-Alike (λ index. export_desc.Func index) ((behind_form (0x00 ∷ []) (unsigned_form 32)).alike a b f g r s p q e)
exported_thing_alike (export_desc.Table a) (export_desc.Table b) f g r s p q e =
    map-Alike (λ index. export_desc.Table index) ((behind_form (0x01 ∷ []) (unsigned_form 32)).alike a b f g r s p q e)
exported_thing_alike (export_desc.Memory a) (export_desc.Memory b) f g r s p q e =
    map-Alike (λ index. export_desc.Memory index) ((behind_form (0x02 ∷ []) (unsigned_form 32)).alike a b f g r s p q e)
exported_thing_alike (export_desc.Global a) (export_desc.Global b) f g r s p q e =
    map-Alike (λ index. export_desc.Global index) ((behind_form (0x03 ∷ []) (unsigned_form 32)).alike a b f g r s p q e)
exported_thing_alike x y f g r s p q e =
    let same = first_bytes_same (export_byte x) (export_byte y) f g r s (begins_with_export_byte x f p) (begins_with_export_byte y g q)
    e in absurd (omega arith)

-- an export, by its name and its kind
pub export_form : OneForm Exported
export_form = along_form (λ e. (e.name, e.desc)) (λ x y e i. record { name = (e i).0; desc = (e i).1 })
    (pair_form name_form (record { alike = exported_thing_alike }))

-- an element segment
pub element_form : OneForm Elements
element_form = along_form (λ e. (e.table, (e.offset, e.funcs)))
    (λ x y e i. record { table = (e i).0; offset = (e i).1.0; funcs = (e i).1.1 })
    (pair_form (unsigned_form 32) (pair_form expression_form (vector_form (unsigned_form 32))))

-- some locals of one type
pub local_run_form : OneForm LocalRun
local_run_form = along_form (λ run. (run.0, run.1)) (λ x y e. e) (pair_form (unsigned_form 32) value_type_form)

-- the locals of a function, since their runs can be read in one way and make them
pub locals_form : OneForm Locals
locals_form = record {
  alike = λ x y f g r s p q e.
      let a = (vector_form local_run_form).alike p.runs q.runs f g r s p.spelled q.spelled e in
      record { thing = sym p.made ∙ ap locals_of a.thing ∙ q.made; spelling = a.spelling; behind = a.behind };
}

-- a function's code behind its size
pub code_form : OneForm Code
code_form = sized_form (pair_form locals_form expression_form)

-- a data segment
pub data_form : OneForm Data
data_form = along_form (λ s. (s.memory, (s.offset, s.bytes)))
    (λ x y e i. record { memory = (e i).0; offset = (e i).1.0; bytes = (e i).1.1 })
    (pair_form (unsigned_form 32) (pair_form expression_form bytes_form))
