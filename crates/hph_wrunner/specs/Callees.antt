-- The functions of a module, found before a run.
use Rattle.std.specs.Prelude.{◌≡◌, ◌≤◌, List, [], ◌∷◌, length, Some, slice_get}
use Rattle.hph_wasm.specs.declared.types.FuncType.{FuncType}
use Rattle.hph_wasm.specs.declared.module.ImportDesc.{ImportDesc}
use Rattle.hph_wasm.specs.declared.module.ImportDesc.TheVariants as import_desc
use Rattle.hph_wasm.specs.declared.module.Import.{Import}
use Rattle.hph_wasm.specs.declared.module.Func.{Func}
use Rattle.hph_wasm.specs.declared.module.Module.{Module}
use Rattle.hph_wasm.specs.Functions.{Function, Imported, functions}
use Rattle.hph_wasm.specs.Configuration.{Host}
use Rattle.hph_wmach.specs.declared.program.Callee.{Callee}
use Rattle.hph_wmach.specs.Program.{CalleeFits}

-- A function's type is there, and has one result at most.
pub record IsTyped (m : Module) (func : Func) : Type 0 where
  pub ty : FuncType
  pub there : slice_get m.types func.ty ≡ Some ty
  pub one : length ty.results ≤ 1

module _ {H E : Type 0} (host : Host H E) (m : Module) where
  -- An import that is a function of the host is told by its row and its type.
  abbrev pub ImportFits : Import → ImportDesc → Callee → Type 0
  ImportFits import (import_desc.Func number) callee = CalleeFits host m callee (Imported import number)
  ImportFits import _ callee = ⊥

  -- Each function is told in its place.
  abbrev pub CalleesFit : List Callee → List Function → Type 0
  CalleesFit [] [] = Unit {0}
  CalleesFit (callee ∷ callees) (function ∷ functions) = CalleeFits host m callee function × CalleesFit callees functions
  CalleesFit _ _ = ⊥
