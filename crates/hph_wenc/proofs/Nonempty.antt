-- Each thing of a section has a byte.
use Rattle.std.proofs.Common.{◌<◌, ℕ, List, ◌++◌, length, Option, Some, None, arith, length-append}
use Rattle.hph_wasm.specs.Leb128.{shortest_unsigned, u32_bytes}
use Rattle.hph_wasm.specs.Spelling.{counted_bytes, func_type_bytes, import_bytes, between_bytes, limits_bytes, table_type_bytes, global_bytes, export_bytes, element_bytes, segment_bytes}
use Rattle.hph_wasm.specs.declared.types.FuncType.{FuncType}
use Rattle.hph_wasm.specs.declared.types.Limits.{Limits}
use Rattle.hph_wasm.specs.declared.module.Import.{Import}
use Rattle.hph_wasm.specs.declared.module.Global.{Global}
use Rattle.hph_wasm.specs.declared.module.Export.{Export}
use Rattle.hph_wasm.specs.declared.module.Element.{Element}
use Rattle.hph_wasm.specs.declared.module.Segment.{Segment}

-- a list that begins with another is no shorter
some-append : (xs ys : List ℕ) → 0 < length xs → 0 < length (xs ++ ys)
some-append xs ys some = omega (arith, length-append xs ys)

-- each number has a byte
pub some-u32_bytes : (n : ℕ) → 0 < length (u32_bytes n)
unfolding shortest_unsigned
some-u32_bytes n = grind arith

-- each vector of bytes has one
pub some-counted_bytes : (bytes : List ℕ) → 0 < length (counted_bytes bytes)
some-counted_bytes bytes = some-append (u32_bytes (length bytes)) bytes (some-u32_bytes (length bytes))

-- each function type has a byte
pub some-func_type_bytes : (ty : FuncType) → 0 < length (func_type_bytes ty)
some-func_type_bytes ty = omega arith

-- each import has a byte
pub some-import_bytes : (i : Import) → 0 < length (import_bytes i)
some-import_bytes i = some-append (counted_bytes i.module) _ (some-counted_bytes i.module)

-- each pair of bounds has a byte
some-between_bytes : (min : ℕ) (max : Option ℕ) → 0 < length (between_bytes min max)
some-between_bytes min None = omega arith
some-between_bytes min (Some max) = omega arith

-- each memory type has a byte
pub some-limits_bytes : (limits : Limits) → 0 < length (limits_bytes limits)
some-limits_bytes limits = some-between_bytes limits.min limits.max

-- each table type has a byte
pub some-table_type_bytes : (limits : Limits) → 0 < length (table_type_bytes limits)
some-table_type_bytes limits = omega arith

-- each global has a byte
pub some-global_bytes : (g : Global) → 0 < length (global_bytes g)
some-global_bytes g = omega arith

-- each export has a byte
pub some-export_bytes : (e : Export) → 0 < length (export_bytes e)
some-export_bytes e = some-append (counted_bytes e.name) _ (some-counted_bytes e.name)

-- each element segment has a byte
pub some-element_bytes : (e : Element) → 0 < length (element_bytes e)
some-element_bytes e = some-append (u32_bytes e.table) _ (some-u32_bytes e.table)

-- each data segment has a byte
pub some-segment_bytes : (s : Segment) → 0 < length (segment_bytes s)
some-segment_bytes s = some-append (u32_bytes s.memory) _ (some-u32_bytes s.memory)
