-- What is told of the imports of a module on a host, and of its main (Core Specification 1.0, 4.5.4).
use Rattle.std.specs.Prelude.{◌≡◌, ◌==◌, ◌&&◌, ℕ, Bool, length, List, [], ◌∷◌, Option, Some, None, slice_get, codes}
use Rattle.std.specs.List.{AllByRecursion}
use Rattle.hph_wasm.specs.declared.types.FuncType.{FuncType}
use Rattle.hph_wasm.specs.declared.module.ImportDesc.{ImportDesc}
use Rattle.hph_wasm.specs.declared.module.ImportDesc.TheVariants as import_desc
use Rattle.hph_wasm.specs.declared.module.Import.{Import}
use Rattle.hph_wasm.specs.declared.module.Module.{Module}
use Rattle.hph_wasm.specs.Functions.{func_type}
use Rattle.hph_wasm.specs.Configuration.{Host}
use Rattle.hph_wasm.specs.Run.{exported_function, HasImport, HasMain, IsFirstUnlinked}
use Rattle.hph_wlink.specs.declared.linked.LinkFault.{LinkFault}
use Rattle.hph_wlink.specs.declared.linked.LinkFault.TheVariants.{Unlinked, NoMemory}

-- main takes and gives nothing
abbrev pub main_type : FuncType
main_type = record { params = []; results = [] }

module _ {H E : Type 0} (host : Host H E) (m : Module) where
  -- The host has the function that is imported, at its type, by this row.
  abbrev pub IsRowOf : Import → ImportDesc → ℕ → Type 0
  IsRowOf import (import_desc.Func number) row = (ty : FuncType) × (slice_get m.types number ≡ Some ty) ×
      (host.row import.«module» import.name ty ≡ Some row)
  IsRowOf import _ row = ⊥

  abbrev pub IsRow : Import → ℕ → Type 0
  IsRow import row = IsRowOf import import.desc row

  -- It has each of these, by these rows in turn.
  abbrev pub AreRows : List Import → List ℕ → Type 0
  AreRows [] [] = Unit {0}
  AreRows (import ∷ imports) (row ∷ rows) = IsRow import row × AreRows imports rows
  AreRows _ _ = ⊥

  -- The row of an import is told, or that the host doesn't have it.
  abbrev pub RowTold : Import → Option ℕ → Type 0
  RowTold import (Some row) = IsRow import row
  RowTold import None = HasImport host m import → ⊥

  -- What keeps a module from being linked is told.
  abbrev pub IsFault : LinkFault → Type 0
  IsFault (Unlinked k) = IsFirstUnlinked host m k
  IsFault NoMemory = Unit {0}

-- The number of an imported function's type.
abbrev pub type_of_desc : ImportDesc → Option ℕ
type_of_desc (import_desc.Func number) = Some number
type_of_desc _ = None

-- Functions alone are imported.
abbrev pub IsFunctionDesc : ImportDesc → Type 0
IsFunctionDesc (import_desc.Func number) = Unit {0}
IsFunctionDesc _ = ⊥

abbrev pub AreFunctions : List Import → Type 0
AreFunctions imports = AllByRecursion (λ import. IsFunctionDesc import.desc) imports

-- A function takes and gives nothing.
abbrev pub is_main_type : FuncType → Bool
is_main_type ty = length ty.params == 0 && length ty.results == 0

-- A function is the module's main.
abbrev pub IsMain : Module → ℕ → Type 0
IsMain m f = (exported_function (codes "main") m.exports ≡ Some f) × (func_type m f ≡ Some main_type)

-- The main is told, or that there is none.
abbrev pub MainTold : Module → Option ℕ → Type 0
MainTold m (Some f) = IsMain m f
MainTold m None = HasMain m → ⊥

-- This import is told.
abbrev pub IsUnlinkedAt : ℕ → LinkFault → Type 0
IsUnlinkedAt k (Unlinked j) = j ≡ k
IsUnlinkedAt k NoMemory = Unit {0}

abbrev pub IsNoMemory : LinkFault → Type 0
IsNoMemory (Unlinked k) = ⊥
IsNoMemory NoMemory = Unit {0}
