-- The module of a program. Its functions are the imports that it uses, in the order of rows; the code of the program by its numbers;
-- its files; and `main`. The table has the code by its numbers, and nothing at 0. The memory begins with the literals, each once.
-- This project's own.
use Rattle.std.specs.Prelude.{ℕ, zero, suc, ◌+◌, ◌/◌, max, pos, List, [], ◌∷◌, ◌++◌, filter_map, length, map, position, Option, None, if◌then◌else◌, codes}
use Rattle.std.specs.List.{concat, list_any}
use Rattle.std.specs.Option.{option_map, unwrap_or}
use Rattle.hph_wasm.specs.declared.types.ValType.TheVariants.{I32}
use Rattle.hph_wasm.specs.declared.types.FuncType.{FuncType}
use Rattle.hph_wasm.specs.declared.instr.Instr.{I32Const}
use Rattle.hph_wasm.specs.declared.module.Module.{Module}
use Rattle.hph_wasm.specs.declared.module.Func.{Func}
use Rattle.hph_wasm.specs.declared.module.Import.{Import}
use Rattle.hph_wasm.specs.declared.module.ImportDesc.TheVariants as import_desc
use Rattle.hph_wasm.specs.declared.module.Export.{Export}
use Rattle.hph_wasm.specs.declared.module.ExportDesc.TheVariants as export_desc
use Rattle.hph_wasm.specs.declared.module.Element.{Element}
use Rattle.hph_wasm.specs.declared.module.Segment.{Segment}
use Rattle.hph_ast.specs.declared.program.Program.{Program}
use Rattle.hph_php.specs.Imports as host
use Rattle.hph_effects.specs.declared.row.Row.{Row}
use Rattle.hph_effects.specs.Rows.{row_import}
use Rattle.hph_plan.specs.Plan.{Plan, plan_of}
use Rattle.hph_lowering.specs.Bodies.{functions_of}
use Rattle.hph_layout.specs.Imports.{used_rows, renumbered_function}

-- ---- types: 0 of files and values, 1 of bodies, which take the number of arguments, then those of the imports, each once

abbrev pub added : List FuncType → FuncType → List FuncType
added types type = if list_any (host.is_same_type type) types then types else types ++ type ∷ []

abbrev pub with_types : List FuncType → List host.Import → List FuncType
with_types types [] = types
with_types types (i ∷ rest) = with_types (added types i.type) rest

abbrev pub types_of : List Row → List FuncType
types_of used = with_types (record { params = []; results = [] } ∷ record { params = I32 ∷ []; results = [] } ∷ []) (filter_map row_import used)

-- ---- imports and exports

abbrev pub import_of : List FuncType → host.Import → Import
import_of types i = record {
  «module» = host.host_name;
  name = i.name;
  desc = import_desc.Func (unwrap_or (position (host.is_same_type i.type) types) 0);
}

abbrev pub imports_of : List Row → List Import
imports_of used = map (import_of (types_of used)) (filter_map row_import used)

-- the last function is run first
abbrev pub exports_of : ℕ → List Export
exports_of main =
    record { name = codes "main"; desc = export_desc.Func main } ∷ record { name = codes "memory"; desc = export_desc.Memory 0 } ∷ []

-- ---- table and memory

-- so many numbers from one on
abbrev pub counted : ℕ → ℕ → List ℕ
counted zero n = []
counted (suc count) n = n ∷ counted count (suc n)

-- the functions from a number on, from place 1 of the table on
abbrev pub elements_of : (first count : ℕ) → List Element
elements_of first zero = []
elements_of first (suc count) = record { table = 0; offset = I32Const (pos 1) ∷ []; funcs = counted (suc count) first } ∷ []

abbrev pub segments_of : List (List ℕ) → List Segment
segments_of [] = []
segments_of (text ∷ texts) = record { memory = 0; offset = I32Const (pos 0) ∷ []; bytes = concat (text ∷ texts) } ∷ []

-- the pages of 65536 bytes that so many bytes need, at least one
abbrev pub pages_of : ℕ → ℕ
pages_of bytes = max 1 ((bytes + 65535) / 65536)

-- ---- the whole

-- with the rows that are used, the number of pieces of code, and the functions, whose last is `main`
abbrev pub module_with : List Row → Plan → List Func → Module
module_with used plan functions = record {
  types = types_of used;
  imports = imports_of used;
  funcs = map (renumbered_function used) functions;
  tables = record { min = suc (length plan.program.codes); max = None } ∷ [];
  memories = record { min = pages_of (length (concat plan.texts)); max = None } ∷ [];
  globals = [];
  exports = exports_of (length used + (length plan.program.codes + length plan.program.paths));
  elements = elements_of (length used) (length plan.program.codes);
  segments = segments_of plan.texts;
}

-- none where something is refused
abbrev pub module_of : Program → Option Module
module_of p = option_map (λ functions. module_with (used_rows functions) (plan_of p) functions) (functions_of (plan_of p) p.files)
