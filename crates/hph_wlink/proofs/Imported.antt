-- Where functions alone are imported, a function's number is that of its import, or is counted on behind the imports.
use Rattle.std.proofs.Common.{◌≡◌, ◌∙◌, ℕ, zero, suc, ◌+◌, ◌-◌, ◌≤◌, List, [], ◌∷◌, ◌++◌, Option, Some, None, length, map, refl, sym, ap, arith}
use Rattle.std.specs.Prelude.{slice_get}
use Rattle.std.specs.Option.{option_map}
use Rattle.std.proofs.lemmas.Option.{slice_get-map}
use Rattle.hph_wasm.specs.declared.module.ImportDesc.{ImportDesc}
use Rattle.hph_wasm.specs.declared.module.ImportDesc.TheVariants as import_desc
use Rattle.hph_wasm.specs.declared.module.Import.{Import}
use Rattle.hph_wasm.specs.declared.module.Func.{Func}
use Rattle.hph_wasm.specs.declared.module.Module.{Module}
use Rattle.hph_wasm.specs.Functions.{Function, Imported, Defined, with_import, imported_functions, functions, type_number}
use Rattle.hph_wlink.specs.Linking.{type_of_desc, IsFunctionDesc, AreFunctions}

-- An import that is a function is the next one.
one_more : (import : Import) (desc : ImportDesc) (more : List Function) → IsFunctionDesc desc →
    (number : ℕ) × (type_of_desc desc ≡ Some number) × (with_import import desc more ≡ Imported import number ∷ more)
one_more import (import_desc.Func number) more is = (number, refl, refl)
one_more import (import_desc.Table limits) more is = absurd is
one_more import (import_desc.Memory limits) more is = absurd is
one_more import (import_desc.Global ty) more is = absurd is

at_more : (function : Function) (more other rest : List Function) (f : ℕ) → other ≡ function ∷ more →
    slice_get (other ++ rest) (suc f) ≡ slice_get (more ++ rest) f
at_more function more other rest f same = ap (λ l. slice_get (l ++ rest) (suc f)) same

-- The function of the import with a number.
pub imported_at : (imports : List Import) (rest : List Function) (f : ℕ) (import : Import) → AreFunctions imports →
    slice_get imports f ≡ Some import →
    (number : ℕ) × (type_of_desc import.desc ≡ Some number) × (slice_get (imported_functions imports ++ rest) f ≡ Some (Imported import number))
imported_at [] rest f import are there = let none : ⊥ = cc in absurd none
imported_at (first ∷ imports) rest zero import are there =
    let same : first ≡ import = cc in
    let (number, typed, next) = one_more first first.desc (imported_functions imports) are.0 in (
      number,
      ap (λ (i : Import). type_of_desc i.desc) (sym same) ∙ typed,
      ap (λ l. slice_get (l ++ rest) 0) next ∙ ap (λ i. Some (Imported i number)) same,
    )
imported_at (first ∷ imports) rest (suc f) import are there =
    let (number, typed, next) = one_more first first.desc (imported_functions imports) are.0 in
    let (other, other_typed, at) = imported_at imports rest f import are.1 there in
    (other, other_typed, at_more (Imported first number) (imported_functions imports) _ rest f next ∙ at)

-- A function behind the imports.
pub behind_imports : (imports : List Import) (rest : List Function) (k : ℕ) → AreFunctions imports →
    slice_get (imported_functions imports ++ rest) (length imports + k) ≡ slice_get rest k
behind_imports [] rest k are = ap (slice_get rest) (omega arith)
behind_imports (first ∷ imports) rest k are =
    let (number, typed, next) = one_more first first.desc (imported_functions imports) are.0 in
    ap (slice_get (imported_functions (first ∷ imports) ++ rest)) (omega arith) ∙
    at_more (Imported first number) (imported_functions imports) _ rest (length imports + k) next ∙ behind_imports imports rest k are.1

module _ (m : Module) (are : AreFunctions m.imports) where
  -- The number of the type of an imported function.
  pub type_of_import : (f : ℕ) (import : Import) → slice_get m.imports f ≡ Some import →
      option_map type_number (slice_get (functions m) f) ≡ type_of_desc import.desc
  type_of_import f import there =
      let (number, typed, at) = imported_at m.imports (map Defined m.funcs) f import are there in
      ap (option_map type_number) at ∙ sym typed

  -- The number of the type of one of the module's own, if there is one.
  pub type_of_own : (f imported : ℕ) (func : Option Func) → imported ≡ length m.imports → imported ≤ f →
      func ≡ slice_get m.funcs (f - imported) → option_map (λ (func : Func). func.ty) func ≡ option_map type_number (slice_get (functions m) f)
  type_of_own f imported func all behind there =
      let k = f - imported in
      let split : length m.imports + k ≡ f = omega arith in
      by func ∙ ap (λ func. option_map type_number (option_map Defined func)) there ∙
      ap (option_map type_number) (sym (behind_imports m.imports (map Defined m.funcs) k are ∙ slice_get-map Defined m.funcs k)) ∙
      ap (λ f. option_map type_number (slice_get (functions m) f)) split
    where
      by : (func : Option Func) → option_map (λ (func : Func). func.ty) func ≡ option_map type_number (option_map Defined func)
      by None = refl
      by (Some func) = refl
