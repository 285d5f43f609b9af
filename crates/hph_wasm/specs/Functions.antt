-- What a module has by number: of each kind the imported ones first (Core Specification 1.0, 2.5.1).
use Rattle.std.specs.Prelude.{ℕ, List, [], ◌∷◌, ◌++◌, map, Option, slice_get, option_and_then}
use Rattle.hph_wasm.specs.declared.types.FuncType.{FuncType}
use Rattle.hph_wasm.specs.declared.types.Limits.{Limits}
use Rattle.hph_wasm.specs.declared.types.GlobalType.{GlobalType}
use Rattle.hph_wasm.specs.declared.module.ImportDesc.{ImportDesc}
use Rattle.hph_wasm.specs.declared.module.ImportDesc.TheVariants as desc
use Rattle.hph_wasm.specs.declared.module.Import.{Import}
use Rattle.hph_wasm.specs.declared.module.Func.{Func}
use Rattle.hph_wasm.specs.declared.module.Module.{Module}

-- A function of the host with the number of its type, or one of the module's own (4.2.6).
pub data Function : Type 0 where
  Imported : (import : Import) → (ty : ℕ) → Function
  Defined : (func : Func) → Function

-- Imports of another kind have numbers of their own.
abbrev pub with_import : Import → ImportDesc → List Function → List Function
with_import import (desc.Func ty) rest = Imported import ty ∷ rest
with_import import _ rest = rest

-- The functions among imports, in their order.
abbrev pub imported_functions : List Import → List Function
imported_functions [] = []
imported_functions (import ∷ imports) = with_import import import.desc (imported_functions imports)

-- All functions, in the order of their numbers.
abbrev pub functions : Module → List Function
functions m = imported_functions m.imports ++ map Defined m.funcs

-- The number of a function's type.
abbrev pub type_number : Function → ℕ
type_number (Imported import ty) = ty
type_number (Defined func) = func.ty

-- The type of the function with a number, if there are both.
abbrev pub func_type : Module → ℕ → Option FuncType
func_type m f = option_and_then (λ function. slice_get m.types (type_number function)) (slice_get (functions m) f)

-- The tables among imports.
abbrev pub with_table : ImportDesc → List Limits → List Limits
with_table (desc.Table limits) rest = limits ∷ rest
with_table _ rest = rest

abbrev pub imported_tables : List Import → List Limits
imported_tables [] = []
imported_tables (import ∷ imports) = with_table import.desc (imported_tables imports)

-- All tables.
abbrev pub tables : Module → List Limits
tables m = imported_tables m.imports ++ m.tables

-- The memories among imports.
abbrev pub with_memory_import : ImportDesc → List Limits → List Limits
with_memory_import (desc.Memory limits) rest = limits ∷ rest
with_memory_import _ rest = rest

abbrev pub imported_memories : List Import → List Limits
imported_memories [] = []
imported_memories (import ∷ imports) = with_memory_import import.desc (imported_memories imports)

-- All memories.
abbrev pub memories : Module → List Limits
memories m = imported_memories m.imports ++ m.memories

-- The types of the globals among imports.
abbrev pub with_global : ImportDesc → List GlobalType → List GlobalType
with_global (desc.Global ty) rest = ty ∷ rest
with_global _ rest = rest

abbrev pub imported_globals : List Import → List GlobalType
imported_globals [] = []
imported_globals (import ∷ imports) = with_global import.desc (imported_globals imports)

-- The types of all globals.
abbrev pub globals : Module → List GlobalType
globals m = imported_globals m.imports ++ map (λ global. global.ty) m.globals
