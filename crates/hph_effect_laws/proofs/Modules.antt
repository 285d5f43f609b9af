-- Modules of small programs, with the imports that they use, as they are laid out by the lowering: functions, then classes, then files,
-- then `main`; all literals in one segment.
use Rattle.std.proofs.Common.{ℕ, suc, ◌+◌, List, [], ◌∷◌, ◌++◌, map, length, None}
use Rattle.std.specs.Prelude.{pos, position, codes, if◌then◌else◌, ◌==◌}
use Rattle.std.specs.Option.{unwrap_or, option_map_or}
use Rattle.hph_wasm.specs.declared.types.ValType.TheVariants.{I32}
use Rattle.hph_wasm.specs.declared.types.FuncType.{FuncType}
use Rattle.hph_wasm.specs.declared.types.BlockType.{BlockType}
use Rattle.hph_wasm.specs.declared.instr.Instr.{Instr, Call, Drop, I32Const, If', Row_of-Instr, end_of-Instr, more_of-Instr, None', Some'}
use Rattle.hph_wasm.specs.declared.module.ImportDesc.TheVariants as import_desc
use Rattle.hph_wasm.specs.declared.module.ExportDesc.TheVariants as export_desc
use Rattle.hph_wasm.specs.declared.module.Func.{Func}
use Rattle.hph_wasm.specs.declared.module.Import as wasm
use Rattle.hph_wasm.specs.declared.module.Module.{Module}
use mathlib.Core.Former.{this, list, arity}
use Rattle.hph_php.specs.Imports.{Import, is_same_type, host_name}
use Rattle.hph_effects.specs.declared.row.Row.{Row}
use Rattle.hph_effects.specs.declared.row.Row.TheVariants as r
use Rattle.hph_effects.specs.Rows.{row_number, row_import}

-- [] -> [], that of files and `main`; and [i32] -> [], that of functions, which are passed how many arguments there are
abbrev pub no_type : FuncType
no_type = record { params = []; results = [] }

abbrev pub count_type : FuncType
count_type = record { params = I32 ∷ []; results = [] }

abbrev pub type_of : Row → FuncType
type_of row = option_map_or (λ (i : Import). i.type) (row_import row) no_type

abbrev pub name_of : Row → List ℕ
name_of row = option_map_or (λ (i : Import). i.name) (row_import row) []

-- the types that are there, each once
abbrev pub with_type : List FuncType → FuncType → List FuncType
with_type [] ty = ty ∷ []
with_type (t ∷ ts) ty = if is_same_type t ty then t ∷ ts else t ∷ with_type ts ty

abbrev pub with_types : List FuncType → List Row → List FuncType
with_types ts [] = ts
with_types ts (row ∷ rows) = with_types (with_type ts (type_of row)) rows

abbrev pub types_of : List Row → List FuncType
types_of rows = with_types (no_type ∷ count_type ∷ []) rows

abbrev pub import_of : List FuncType → Row → wasm.Import
import_of types row = record {
  «module» = host_name;
  name = name_of row;
  desc = import_desc.Func (unwrap_or (position (λ t. is_same_type t (type_of row)) types) 0);
}

-- the call of a row's function
abbrev pub call : List Row → Row → Instr
call rows row = Call (unwrap_or (position (λ other. row_number other == row_number row) rows) 0)

-- a function of a file, with a scratch local, and one that takes the count of its arguments
abbrev pub file : List Instr → Func
file body = record { ty = 0; locals = I32 ∷ []; body = body }

abbrev pub entry : List Instr → Func
entry body = record { ty = 1; locals = I32 ∷ []; body = body }

abbrev pub word : ℕ → Instr
word n = I32Const (pos n)

-- ---- an `if` without results, by the instructions of its branches

abbrev shape_of : List Instr → List (Unit {0})
shape_of [] = []
shape_of (i ∷ is) = tt ∷ shape_of is

abbrev row_of : (is : List Instr) → Row_of-Instr (arity (list this) (shape_of is))
row_of [] = end_of-Instr
row_of (i ∷ is) = more_of-Instr i (row_of is)

abbrev no_result : BlockType
no_result = record { result = None }

abbrev pub when : List Instr → Instr
when body = If' no_result (shape_of body) (row_of body) None'

abbrev pub when_or : List Instr → List Instr → Instr
when_or body other = If' no_result (shape_of body) (row_of body) (Some' (shape_of other) (row_of other))

-- enters the file whose function this is, and calls it
abbrev pub main : List Row → ℕ → Func
main rows function = file (word 0 ∷ call rows r.Once ∷ Drop ∷ Call function ∷ [])

-- functions that are in the table, from number 1 on, then the program's file, and `main`
abbrev pub module_of : List Row → (entries : List Func) → (statements : List Instr) → (literals : List ℕ) → Module
module_of rows entries statements literals = record {
  types = types_of rows;
  imports = map (import_of (types_of rows)) rows;
  funcs = entries ++ file statements ∷ main rows (length rows + length entries) ∷ [];
  tables = record { min = suc (length entries); max = None } ∷ [];
  memories = record { min = 1; max = None } ∷ [];
  globals = [];
  exports =
      record { name = codes "main"; desc = export_desc.Func (length rows + length entries + 1) } ∷
      record { name = codes "memory"; desc = export_desc.Memory 0 } ∷ [];
  elements = record { table = 0; offset = I32Const (pos 1) ∷ []; funcs = numbers (length rows) entries } ∷ [];
  segments = record { memory = 0; offset = I32Const (pos 0) ∷ []; bytes = literals } ∷ [];
}
  where
    numbers : ℕ → List Func → List ℕ
    numbers n [] = []
    numbers n (f ∷ fs) = n ∷ numbers (suc n) fs
