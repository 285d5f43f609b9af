-- The module of a program that prints texts: the layout is this project's own.
use Rattle.std.specs.Prelude.{ℕ, ◌+◌, ◌/◌, max, pos, List, [], ◌∷◌, length, codes, None}
use Rattle.std.specs.List.{concat}
use Rattle.hph_wasm.specs.declared.types.ValType.TheVariants.{I32}
use Rattle.hph_wasm.specs.declared.types.FuncType.{FuncType}
use Rattle.hph_wasm.specs.declared.instr.Instr.{Instr, Call, I32Const}
use Rattle.hph_wasm.specs.declared.module.ImportDesc.TheVariants as import_desc
use Rattle.hph_wasm.specs.declared.module.Import.{Import}
use Rattle.hph_wasm.specs.declared.module.ExportDesc.TheVariants as export_desc
use Rattle.hph_wasm.specs.declared.module.Export.{Export}
use Rattle.hph_wasm.specs.declared.module.Segment.{Segment}
use Rattle.hph_wasm.specs.declared.module.Module.{Module}

-- the pages of 65536 bytes that so many bytes need, at least one
unfoldable pub pages_of : ℕ → ℕ
pages_of bytes = max 1 ((bytes + 65535) / 65536)

-- types 0 and 1: of the import, and of `main`
abbrev pub write_type : FuncType
write_type = record { params = I32 ∷ I32 ∷ []; results = [] }

abbrev pub main_type : FuncType
main_type = record { params = []; results = [] }

-- function 0
abbrev pub write_import : Import
write_import = record { «module» = codes "php1"; name = codes "write"; desc = import_desc.Func 0 }

-- function 1
abbrev pub main_export : Export
main_export = record { name = codes "main"; desc = export_desc.Func 1 }

-- the texts are printed from where they lie in memory, one behind the other
abbrev pub prints_from : ℕ → List (List ℕ) → List Instr
prints_from place [] = []
prints_from place (text ∷ texts) = I32Const (pos place) ∷ I32Const (pos (length text)) ∷ Call 0 ∷ prints_from (place + length text) texts

-- one data segment with all texts, left out where there are none
abbrev pub segments_of : List (List ℕ) → List Segment
segments_of [] = []
segments_of (text ∷ texts) = record { memory = 0; offset = I32Const (pos 0) ∷ []; bytes = concat (text ∷ texts) } ∷ []

abbrev pub module_of : List (List ℕ) → Module
module_of texts = record {
  types = write_type ∷ main_type ∷ [];
  imports = write_import ∷ [];
  funcs = record { ty = 1; locals = []; body = prints_from 0 texts } ∷ [];
  tables = [];
  memories = record { min = pages_of (length (concat texts)); max = None } ∷ [];
  globals = [];
  exports = main_export ∷ [];
  elements = [];
  segments = segments_of texts;
}
