-- The rules for what stands outside code (Core Specification 1.0, 3.2 and 3.4) as tests that compute.
use Rattle.std.specs.Prelude.{ℕ, ◌^◌, List, [], ◌∷◌, length, Bool, true, false, not, ◌&&◌, if◌then◌else◌, nat_lt, nat_le, Option, Some, None, slice_get}
use Rattle.std.specs.List.{list_any}
use Rattle.std.specs.Str.{bytes_eq}
use Rattle.hph_wasm.specs.declared.instr.Instr.{Instr, GlobalGet, I32Const, I64Const}
use Rattle.hph_wasm.specs.declared.types.ValType.{ValType}
use Rattle.hph_wasm.specs.declared.types.ValType.TheVariants.{I32, I64}
use Rattle.hph_wasm.specs.declared.types.FuncType.{FuncType}
use Rattle.hph_wasm.specs.declared.types.Limits.{Limits}
use Rattle.hph_wasm.specs.declared.types.GlobalType.{GlobalType}
use Rattle.hph_wasm.specs.declared.module.ImportDesc.{ImportDesc}
use Rattle.hph_wasm.specs.declared.module.ImportDesc.TheVariants as import_desc
use Rattle.hph_wasm.specs.declared.module.ExportDesc.{ExportDesc}
use Rattle.hph_wasm.specs.declared.module.ExportDesc.TheVariants as export_desc
use Rattle.hph_wasm.specs.declared.module.Global.{Global}
use Rattle.hph_wasm.specs.declared.module.Export.{Export}
use Rattle.hph_wasm.specs.declared.module.Element.{Element}
use Rattle.hph_wasm.specs.declared.module.Segment.{Segment}
use Rattle.hph_wasm.specs.declared.module.Module.{Module}
use Rattle.hph_wasm.specs.Choice.{if_some}
use Rattle.hph_wvalid.specs.declared.spaces.Spaces.{Spaces}
use Rattle.hph_wvalid.specs.declared.stack.Kind.TheVariants.{Known}
use Rattle.hph_wvalid.specs.Checking.{is_kind}

-- All pass the test.
abbrev pub every : {X : Type 0} → (X → Bool) → List X → Bool
every test [] = true
every test (x ∷ xs) = test x && every test xs

-- At most one result (3.2.2).
abbrev pub is_func_type : FuncType → Bool
is_func_type ty = nat_le (length ty.results) 1

-- A greatest size within a range, from the least one on.
abbrev pub is_max : ℕ → ℕ → Option ℕ → Bool
is_max range min None = true
is_max range min (Some max) = nat_le max range && nat_le min max

-- Limits within a range (3.2.1).
abbrev pub is_limits : ℕ → Limits → Bool
is_limits range limits = nat_le limits.min range && is_max range limits.min limits.max

-- An import, where there are so many types (3.4.9).
abbrev pub is_import : ℕ → ImportDesc → Bool
is_import types (import_desc.Func ty) = nat_lt ty types
is_import types (import_desc.Table limits) = is_limits (2 ^ 32) limits
is_import types (import_desc.Memory limits) = is_limits 65536 limits
is_import types (import_desc.Global ty) = true

-- An export of what is there (3.4.8).
abbrev pub is_export : Spaces → ExportDesc → Bool
is_export spaces (export_desc.Func f) = nat_lt f (length spaces.functions)
is_export spaces (export_desc.Table t) = nat_lt t (length spaces.tables)
is_export spaces (export_desc.Memory n) = nat_lt n (length spaces.memories)
is_export spaces (export_desc.Global x) = nat_lt x (length spaces.globals)

-- The type of a constant instruction, where globals have these types; none of others (3.3.7.2).
abbrev pub constant_type : List GlobalType → Instr → Option ValType
constant_type types (I32Const z) = Some I32
constant_type types (I64Const z) = Some I64
constant_type types (GlobalGet x) = if_some (slice_get types x) None (λ ty. if ty.mutable then None else Some ty.value)
constant_type types _ = None

-- An expression that is one constant of a type.
abbrev pub is_initial : List GlobalType → ValType → List Instr → Bool
is_initial types ty (i ∷ []) = if_some (constant_type types i) false (λ other. is_kind ty (Known other))
is_initial types ty _ = false

-- A global with its initial value, which sees globals of these types (3.4.4).
abbrev pub is_global : List GlobalType → Global → Bool
is_global types global = is_initial types global.ty.value global.init

-- An element segment (3.4.5).
abbrev pub is_element : Spaces → Element → Bool
is_element spaces element = nat_lt element.table (length spaces.tables) && (is_initial spaces.globals I32 element.offset &&
    every (λ f. nat_lt f (length spaces.functions)) element.funcs)

-- A data segment (3.4.6).
abbrev pub is_segment : Spaces → Segment → Bool
is_segment spaces segment = nat_lt segment.memory (length spaces.memories) && is_initial spaces.globals I32 segment.offset

-- A name that one of the exports has.
abbrev pub is_named : List ℕ → List Export → Bool
is_named name exports = list_any (λ export. bytes_eq export.name name) exports

-- Each name is exported once: none has the name of a later one (3.4.10).
abbrev pub is_named_once : List Export → Bool
is_named_once [] = true
is_named_once (export ∷ exports) = not (is_named export.name exports) && is_named_once exports

-- The types, tables and memories, with what is imported.
abbrev pub are_types : Module → Spaces → Bool
are_types m spaces = every is_func_type m.types && (every (λ import. is_import (length m.types) import.desc) m.imports &&
    (every (λ func. nat_lt func.ty (length m.types)) m.funcs && (every (is_limits (2 ^ 32)) m.tables && (nat_le (length spaces.tables) 1 &&
    (every (is_limits 65536) m.memories && nat_le (length spaces.memories) 1)))))

-- The globals, exports and segments.
abbrev pub are_contents : Module → Spaces → Bool
are_contents m spaces = every (is_global spaces.imported_globals) m.globals && (every (λ export. is_export spaces export.desc) m.exports &&
    (every (is_element spaces) m.elements && (every (is_segment spaces) m.segments && is_named_once m.exports)))
