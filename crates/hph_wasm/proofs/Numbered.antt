-- What holds of every function, import and table entry of a module holds of the one with a number.
use Rattle.std.proofs.Common.{◌≡◌, ◌<◌, ◌∙◌, ℕ, zero, suc, ◌+◌, List, [], ◌∷◌, ◌++◌, Option, Some, None, length, map, take, drop, replicate, refl, ap, subst, arith}
use Rattle.std.specs.Prelude.{slice_get, option_and_then}
use Rattle.std.specs.List.{AllByRecursion}
use Rattle.hph_wasm.specs.declared.types.Limits.{Limits}
use Rattle.hph_wasm.specs.declared.types.FuncType.{FuncType}
use Rattle.hph_wasm.specs.declared.value.Value.{Value}
use Rattle.hph_wasm.specs.declared.module.ImportDesc.{ImportDesc}
use Rattle.hph_wasm.specs.declared.module.ImportDesc.TheVariants as import_desc
use Rattle.hph_wasm.specs.declared.module.Import.{Import}
use Rattle.hph_wasm.specs.declared.module.Func.{Func}
use Rattle.hph_wasm.specs.declared.module.Element.{Element}
use Rattle.hph_wasm.specs.declared.module.Module.{Module}
use Rattle.hph_wasm.specs.Functions.{Function, Imported, Defined, with_import, imported_functions, functions, type_number, func_type}
use Rattle.hph_wasm.specs.Instantiation.{globals_at_start, offset_of, overwritten, empty_table, with_elements, first_table, table_of}
use Rattle.hph_wasm.specs.Validity.{IsFunc}
use Rattle.hph_wasm.specs.ModuleValidity.{IsImportDesc, IsElement, IsValidOutside, IsValid}
use Rattle.hph_wasm.specs.Configuration.{Host}
use Rattle.hph_wasm.specs.Run.{HasThing, HasImport, IsLinked}

-- What holds of each holds of the one at a number.
pub all-at : {X : Type 0} (P : X → Type 0) (xs : List X) (i : ℕ) (x : X) → AllByRecursion P xs → slice_get xs i ≡ Some x → P x
all-at P [] i x all there = let none : ⊥ = cc in absurd none
all-at P (y ∷ xs) zero x all there = let same : y ≡ x = cc in subst P same all.0
all-at P (y ∷ xs) (suc i) x all there = all-at P xs i x all.1 there

-- What holds of each of two lists holds of each of both.
all-append : {X : Type 0} (P : X → Type 0) (xs ys : List X) → AllByRecursion P xs → AllByRecursion P ys → AllByRecursion P (xs ++ ys)
all-append P [] ys of_xs of_ys = of_ys
all-append P (x ∷ xs) ys of_xs of_ys = (of_xs.0, all-append P xs ys of_xs.1 of_ys)

-- What holds of each holds of each at the front.
all-take : {X : Type 0} (P : X → Type 0) (n : ℕ) (xs : List X) → AllByRecursion P xs → AllByRecursion P (take n xs)
all-take P zero xs all = tt
all-take P (suc n) [] all = tt
all-take P (suc n) (x ∷ xs) all = (all.0, all-take P n xs all.1)

-- The same behind the front.
all-drop : {X : Type 0} (P : X → Type 0) (n : ℕ) (xs : List X) → AllByRecursion P xs → AllByRecursion P (drop n xs)
all-drop P zero xs all = all
all-drop P (suc n) [] all = tt
all-drop P (suc n) (x ∷ xs) all = all-drop P n xs all.1

-- What holds of one thing holds of each copy.
all-replicate : {X : Type 0} (P : X → Type 0) (n : ℕ) (x : X) → P x → AllByRecursion P (replicate n x)
all-replicate P zero x holds = tt
all-replicate P (suc n) x holds = (holds, all-replicate P n x holds)

-- Where a number is below a list's length, there is an element.
pub below-there : {X : Type 0} (xs : List X) (i : ℕ) → i < length xs → (x : X) × (slice_get xs i ≡ Some x)
below-there [] i below = absurd (omega (arith, below))
below-there (x ∷ xs) zero below = (x, refl)
below-there (x ∷ xs) (suc i) below = below-there xs i (omega (arith, below))

module _ (m : Module) where
  -- A function of a valid module has a valid body, if it has one.
  abbrev pub HasValidBody : Function → Type 0
  HasValidBody (Imported import ty) = Unit {0}
  HasValidBody (Defined func) = IsFunc m func

  -- The module's own functions have valid bodies.
  defined_bodies : (funcs : List Func) → AllByRecursion (IsFunc m) funcs → AllByRecursion HasValidBody (map Defined funcs)
  defined_bodies [] valid = tt
  defined_bodies (func ∷ funcs) valid = (valid.0, defined_bodies funcs valid.1)

  -- An import has no body, of whichever kind it is.
  imported_bodies_at : (import : Import) (desc : ImportDesc) (rest : List Function) → AllByRecursion HasValidBody rest →
      AllByRecursion HasValidBody (with_import import desc rest)
  imported_bodies_at import (import_desc.Func ty) rest all = (tt, all)
  imported_bodies_at import (import_desc.Table limits) rest all = all
  imported_bodies_at import (import_desc.Memory limits) rest all = all
  imported_bodies_at import (import_desc.Global ty) rest all = all

  -- Imports have no bodies.
  imported_bodies : (imports : List Import) → AllByRecursion HasValidBody (imported_functions imports)
  imported_bodies [] = tt
  imported_bodies (import ∷ imports) = imported_bodies_at import import.desc (imported_functions imports) (imported_bodies imports)

  -- The function with a number has a valid body, if it has one.
  pub body_at : (f : ℕ) (function : Function) → IsValid m → slice_get (functions m) f ≡ Some function → HasValidBody function
  body_at f function valid there =
      let all = all-append HasValidBody (imported_functions m.imports) (map Defined m.funcs) (imported_bodies m.imports) (defined_bodies m.funcs valid.funcs) in
      all-at HasValidBody (functions m) f function all there

  module _ {H E : Type 0} (host : Host H E) where
    -- The host has a function that is imported, at its type.
    abbrev pub HasRow : Function → Type 0
    HasRow (Imported import number) = HasThing host m import (import_desc.Func number)
    HasRow (Defined func) = Unit {0}

    -- The module's own functions need no row.
    defined_rows : (funcs : List Func) → AllByRecursion HasRow (map Defined funcs)
    defined_rows [] = tt
    defined_rows (func ∷ funcs) = (tt, defined_rows funcs)

    -- What the host has is a function with a row.
    imported_rows_at : (import : Import) (desc : ImportDesc) (rest : List Function) → HasThing host m import desc → AllByRecursion HasRow rest →
        AllByRecursion HasRow (with_import import desc rest)
    imported_rows_at import (import_desc.Func ty) rest has all = (has, all)
    imported_rows_at import (import_desc.Table limits) rest has all = absurd has
    imported_rows_at import (import_desc.Memory limits) rest has all = absurd has
    imported_rows_at import (import_desc.Global ty) rest has all = absurd has

    -- The same of all imports.
    imported_rows : (imports : List Import) → AllByRecursion (HasImport host m) imports → AllByRecursion HasRow (imported_functions imports)
    imported_rows [] all = tt
    imported_rows (import ∷ imports) all =
        imported_rows_at import import.desc (imported_functions imports) all.0 (imported_rows imports all.1)

    -- The function with a number has a row, if it is an import.
    pub row_at : (f : ℕ) (function : Function) → IsLinked host m → slice_get (functions m) f ≡ Some function → HasRow function
    row_at f function linked there =
        let all = all-append HasRow (imported_functions m.imports) (map Defined m.funcs) (imported_rows m.imports linked.imports) (defined_rows m.funcs) in
        all-at HasRow (functions m) f function all there

  -- A function's type is there.
  abbrev IsTyped : Function → Type 0
  IsTyped function = type_number function < length m.types

  -- Those of the module's own functions are.
  defined_typed : (funcs : List Func) → AllByRecursion (λ func. func.ty < length m.types) funcs → AllByRecursion IsTyped (map Defined funcs)
  defined_typed [] valid = tt
  defined_typed (func ∷ funcs) valid = (valid.0, defined_typed funcs valid.1)

  -- That of an import is, if it is a function.
  imported_typed_at : (import : Import) (desc : ImportDesc) (rest : List Function) → IsImportDesc m desc → AllByRecursion IsTyped rest →
      AllByRecursion IsTyped (with_import import desc rest)
  imported_typed_at import (import_desc.Func ty) rest valid all = (valid, all)
  imported_typed_at import (import_desc.Table limits) rest valid all = all
  imported_typed_at import (import_desc.Memory limits) rest valid all = all
  imported_typed_at import (import_desc.Global ty) rest valid all = all

  -- Those of all imports are.
  imported_typed : (imports : List Import) → AllByRecursion (λ import. IsImportDesc m import.desc) imports →
      AllByRecursion IsTyped (imported_functions imports)
  imported_typed [] valid = tt
  imported_typed (import ∷ imports) valid =
      imported_typed_at import import.desc (imported_functions imports) valid.0 (imported_typed imports valid.1)

  -- Each function of a valid module has a type.
  typed_at : (f : ℕ) → IsValidOutside m → f < length (functions m) → (ty : FuncType) × (func_type m f ≡ Some ty)
  typed_at f valid below =
      let (function, there) = below-there (functions m) f below in
      let all = all-append IsTyped (imported_functions m.imports) (map Defined m.funcs) (imported_typed m.imports valid.imports) (defined_typed m.funcs valid.func_types) in
      let (ty, known) = below-there m.types (type_number function) (all-at IsTyped (functions m) f function all there) in
      (ty, ap (option_and_then (λ function. slice_get m.types (type_number function))) there ∙ known)

  -- An entry of a table is empty, or a function with a type.
  abbrev IsEntry : Option ℕ → Type 0
  IsEntry None = Unit {0}
  IsEntry (Some f) = f < length (functions m)

  -- The functions of an element segment are.
  entries : (funcs : List ℕ) → AllByRecursion (λ f. f < length (functions m)) funcs → AllByRecursion IsEntry (map Some funcs)
  entries [] valid = tt
  entries (f ∷ funcs) valid = (valid.0, entries funcs valid.1)

  -- So are all entries of the table that they are put into.
  with_elements-entries : (globals : List Value) (elements : List Element) (table : List (Option ℕ)) → AllByRecursion (IsElement m) elements →
      AllByRecursion IsEntry table → AllByRecursion IsEntry (with_elements globals elements table)
  with_elements-entries globals [] table valid all = all
  with_elements-entries globals (element ∷ elements) table valid all =
      let offset = offset_of globals element.offset in
      with_elements-entries globals elements (overwritten table offset (map Some element.funcs)) valid.1
      (all-append IsEntry (take offset table) (map Some element.funcs ++ drop (offset + length (map Some element.funcs)) table)
      (all-take IsEntry offset table all)
      (all-append IsEntry (map Some element.funcs) (drop (offset + length (map Some element.funcs)) table) (entries element.funcs valid.0.2)
      (all-drop IsEntry (offset + length (map Some element.funcs)) table all)))

  -- So are all entries of the first of these tables.
  first_table-entries : (globals : List Value) (tables : List Limits) (elements : List Element) → AllByRecursion (IsElement m) elements →
      AllByRecursion IsEntry (first_table globals tables elements)
  unfolding empty_table
  first_table-entries globals [] elements valid = tt
  first_table-entries globals (table ∷ more) elements valid =
      with_elements-entries globals elements (empty_table table.min) valid (all-replicate IsEntry table.min None tt)

  -- A function in the table of a valid module has a type.
  pub entry_at : (n f : ℕ) → IsValidOutside m → slice_get (table_of m) n ≡ Some (Some f) → (ty : FuncType) × (func_type m f ≡ Some ty)
  entry_at n f valid there =
      let all = first_table-entries (globals_at_start m) m.tables m.elements valid.elements in
      typed_at f valid (all-at IsEntry (table_of m) n (Some f) all there)
