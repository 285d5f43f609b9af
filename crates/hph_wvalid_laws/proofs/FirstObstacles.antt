-- Imports, `main` and segments are looked for in turn.
use Rattle.std.proofs.Common.{◌≡◌, inl, inr, ◌⊎◌, ℕ, ◌+◌, List, [], ◌∷◌, Option, None, Some, length, refl, sym, ap, subst, arith}
use Rattle.std.proofs.lemmas.Bool.{cases_lt}
use Rattle.std.specs.Prelude.{slice_get, codes}
use Rattle.std.specs.List.{AllByRecursion}
use Rattle.hph_wasm.specs.declared.types.ValType.{ValType}
use Rattle.hph_wasm.specs.declared.types.FuncType.{FuncType}
use Rattle.hph_wasm.specs.declared.module.ImportDesc.{ImportDesc}
use Rattle.hph_wasm.specs.declared.module.ImportDesc.TheVariants as import_desc
use Rattle.hph_wasm.specs.declared.module.Import.{Import}
use Rattle.hph_wasm.specs.declared.module.Module.{Module}
use Rattle.hph_wasm.specs.Functions.{func_type}
use Rattle.hph_wasm.specs.Instantiation.{Placement, IsWithin, placements}
use Rattle.hph_wasm.specs.Configuration.{Host}
use Rattle.hph_wasm.specs.Run.{exported_function, HasThing, HasImport, HasMain, IsLinked, Unlinked, Misfit, unlinked, misfit}
use Rattle.hph_wasm.proofs.Obstacles.{take-all}
use Rattle.hph_wvalid_laws.specs.Decided.{ReadinessIsDecided}
use Rattle.hph_wvalid_laws.proofs.FirstFaults.{all-or-first}

-- Something holds, or doesn't.
abbrev Decided : Type 0 → Type 0
Decided P = P ⊎ (P → ⊥)

-- A segment ends within its table or memory, or doesn't.
within_decided : (place : Placement) → Decided (IsWithin place)
within_decided place = elim (cases_lt place.room (place.offset + place.count)) [
  | inl past ↦ inr (λ within. omega (arith, past, within))
  | inr within ↦ inl within
]

all_within : (places : List Placement) → AllByRecursion (λ place. Decided (IsWithin place)) places
all_within [] = tt
all_within (place ∷ places) = (within_decided place, all_within places)

-- A type that was found, and what it takes and gives.
abbrev of_lists : (params results : List ValType) → Option FuncType
of_lists params results = Some (record { params = params; results = results })

abbrev params_of : Option FuncType → List ValType
params_of None = []
params_of (Some ty) = ty.params

abbrev results_of : Option FuncType → List ValType
results_of None = []
results_of (Some ty) = ty.results

module _ {H E : Type 0} (host : Host H E) (m : Module) where
  module _ (import : Import) where
    row_by : (number : ℕ) (ty : FuncType) (row : Option ℕ) → slice_get m.types number ≡ Some ty →
        host.row import.«module» import.name ty ≡ row → Decided (HasThing host m import (import_desc.Func number))
    row_by number ty (Some row) known found = inl (ty, known, row, found)
    row_by number ty None known missing =
        inr (λ (other, other_known, row, found). let same : other ≡ ty = cc in let no : ⊥ = cc in no)

    type_by : (number : ℕ) (ty : Option FuncType) → slice_get m.types number ≡ ty → Decided (HasThing host m import (import_desc.Func number))
    type_by number None missing = inr (λ (other, known, row, found). let no : ⊥ = cc in no)
    type_by number (Some ty) known = row_by number ty (host.row import.«module» import.name ty) known refl

    -- The host has what is imported, or doesn't.
    thing_decided : (desc : ImportDesc) → Decided (HasThing host m import desc)
    thing_decided (import_desc.Func number) = type_by number (slice_get m.types number) refl
    thing_decided (import_desc.Table limits) = inr (λ has. has)
    thing_decided (import_desc.Memory limits) = inr (λ has. has)
    thing_decided (import_desc.Global ty) = inr (λ has. has)

  imports_decided : (imports : List Import) → AllByRecursion (λ import. Decided (HasImport host m import)) imports
  imports_decided [] = tt
  imports_decided (import ∷ imports) = (thing_decided import import.desc, imports_decided imports)

  takes_by : (f : ℕ) (params results : List ValType) → exported_function (codes "main") m.exports ≡ Some f →
      func_type m f ≡ Some (record { params = params; results = results }) → Decided (HasMain m)
  takes_by f [] [] exported known = inl (f, exported, known)
  takes_by f [] (result ∷ results) exported known = inr (λ (g, also, plain).
      let same : g ≡ f = cc in
      let types : of_lists [] (result ∷ results) ≡ of_lists [] [] = cc in
      let gives : result ∷ results ≡ [] = ap results_of types in
      let no : ⊥ = cc in
      no)
  takes_by f (param ∷ params) results exported known = inr (λ (g, also, plain).
      let same : g ≡ f = cc in
      let types : of_lists (param ∷ params) results ≡ of_lists [] [] = cc in
      let takes : param ∷ params ≡ [] = ap params_of types in
      let no : ⊥ = cc in
      no)

  main_type_by : (f : ℕ) (ty : Option FuncType) → exported_function (codes "main") m.exports ≡ Some f → func_type m f ≡ ty → Decided (HasMain m)
  main_type_by f None exported missing = inr (λ (g, also, plain). let same : g ≡ f = cc in let no : ⊥ = cc in no)
  main_type_by f (Some ty) exported known = takes_by f ty.params ty.results exported known

  main_by : (f : Option ℕ) → exported_function (codes "main") m.exports ≡ f → Decided (HasMain m)
  main_by None missing = inr (λ (g, exported, plain). let no : ⊥ = cc in no)
  main_by (Some f) exported = main_type_by f (func_type m f) exported refl

  -- There is a `main` that takes and gives nothing, or there is none.
  main_decided : Decided (HasMain m)
  main_decided = main_by (exported_function (codes "main") m.exports) refl

  segments_by : IsLinked host m → ReadinessIsDecided host m
  segments_by linked =
      elim (all-or-first IsWithin (λ place. IsWithin place → ⊥) (placements m) (all_within (placements m))) [
        | inl all ↦ inl (record { linked = linked; fit = all })
        | inr (k, place, there, before, past) ↦ inr (Misfit k, misfit k linked (place, there, past, before))
      ]

  linked_by : AllByRecursion (HasImport host m) m.imports → Decided (HasMain m) → ReadinessIsDecided host m
  linked_by imports (inl main) = segments_by (record { imports = imports; main = main })
  linked_by imports (inr missing) = inr (
    Unlinked (length m.imports),
    unlinked (length m.imports) (subst (AllByRecursion (HasImport host m)) (sym (take-all m.imports)) imports, inr (refl, missing)),
  )

  pub readiness_decided : ReadinessIsDecided host m
  readiness_decided =
      elim (all-or-first (HasImport host m) (λ import. HasImport host m import → ⊥) m.imports (imports_decided m.imports)) [
        | inl all ↦ linked_by all main_decided
        | inr (k, import, there, before, missing) ↦ inr (Unlinked k, unlinked k (before, inl (import, there, missing)))
      ]
