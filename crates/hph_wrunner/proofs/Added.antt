-- The functions of a module, found one by one.
use Rattle.std.proofs.Common.{◌≡◌, ◌∙◌, ℕ, zero, suc, ◌+◌, ◌<◌, List, [], ◌∷◌, ◌++◌, append_assoc, Some, None, length, map, take, get_or, refl, sym, ap, subst, arith}
use Rattle.std.specs.Prelude.{slice_get}
use Rattle.std.proofs.lemmas.List.{take_more}
use Rattle.hph_wasm.specs.declared.module.ImportDesc.{ImportDesc}
use Rattle.hph_wasm.specs.declared.module.ImportDesc.TheVariants as import_desc
use Rattle.hph_wasm.specs.declared.module.Import.{Import}
use Rattle.hph_wasm.specs.declared.module.Func.{Func}
use Rattle.hph_wasm.specs.declared.module.Module.{Module}
use Rattle.hph_wasm.specs.Functions.{Function, Defined, with_import, imported_functions, functions}
use Rattle.hph_wasm.specs.Configuration.{Host}
use Rattle.hph_wlink.specs.Linking.{IsRow, AreRows}
use Rattle.hph_wmach.specs.declared.program.Callee.{Callee}
use Rattle.hph_wmach.specs.Program.{CalleeFits, EntryFits}
use Rattle.hph_wrunner.specs.Callees.{ImportFits, CalleesFit}

with_more : (import : Import) (desc : ImportDesc) (more others : List Function) →
    with_import import desc (more ++ others) ≡ with_import import desc more ++ others
with_more import (import_desc.Func number) more others = refl
with_more import (import_desc.Table limits) more others = refl
with_more import (import_desc.Memory limits) more others = refl
with_more import (import_desc.Global ty) more others = refl

one_more : (imports : List Import) (import : Import) →
    imported_functions (imports ++ import ∷ []) ≡ imported_functions imports ++ with_import import import.desc []
one_more [] import = refl
one_more (first ∷ imports) import = ap (with_import first first.desc) (one_more imports import) ∙
    with_more first first.desc (imported_functions imports) (with_import import import.desc [])

module _ {H E : Type 0} (host : Host H E) (m : Module) where
  -- The row of an import by its number.
  row_at : (all imports : List Import) (rows : List ℕ) (k : ℕ) (import : Import) → all ≡ imports → AreRows host m imports rows →
      k < length all → import ≡ get_or all k import → (row : ℕ) × (slice_get rows k ≡ Some row) × IsRow host m import row
  row_at all imports rows k import same are within at =
      by all rows k (subst (λ imports. AreRows host m imports rows) (sym same) are) within at
    where
      by : (all : List Import) (rows : List ℕ) (k : ℕ) → AreRows host m all rows → k < length all → import ≡ get_or all k import →
          (row : ℕ) × (slice_get rows k ≡ Some row) × IsRow host m import row
      by [] rows k are within at = absurd (omega (arith, within))
      by (first ∷ all) [] k are within at = absurd are
      by (first ∷ all) (row ∷ rows) zero are within at = (row, refl, subst (λ import. IsRow host m import row) (sym at) are.0)
      by (first ∷ all) (row ∷ rows) (suc k) are within at = by all rows k are.1 (omega (arith, within)) at

  -- The row that was found is its row.
  pub is_its_row : (all imports : List Import) (rows : List ℕ) (k : ℕ) (import : Import) (row : ℕ) → all ≡ imports →
      AreRows host m imports rows → k < length all → import ≡ get_or all k import → Some row ≡ slice_get rows k → IsRow host m import row
  is_its_row all imports rows k import row same are within at found =
      let (other, there, is) = row_at all imports rows k import same are within at in
      let equal : other ≡ row = cc in subst (IsRow host m import) equal is

  -- None can be missing.
  pub row_there : (all imports : List Import) (rows : List ℕ) (k : ℕ) (import : Import) → all ≡ imports → AreRows host m imports rows →
      k < length all → import ≡ get_or all k import → None ≡ slice_get rows k → ⊥
  row_there all imports rows k import same are within at missing =
      let (row, there, is) = row_at all imports rows k import same are within at in
      let no : ⊥ = cc in no

  both_fit : (callees others : List Callee) (functions more : List Function) → CalleesFit host m callees functions →
      CalleesFit host m others more → CalleesFit host m (callees ++ others) (functions ++ more)
  both_fit [] others [] more fit fit_more = fit_more
  both_fit [] others (function ∷ functions) more fit fit_more = absurd fit
  both_fit (callee ∷ callees) others [] more fit fit_more = absurd fit
  both_fit (callee ∷ callees) others (function ∷ functions) more fit fit_more =
      (fit.0, both_fit callees others functions more fit.1 fit_more)

  imported_fits : (import : Import) (desc : ImportDesc) (callee : Callee) → ImportFits host m import desc callee →
      CalleesFit host m (callee ∷ []) (with_import import desc [])
  imported_fits import (import_desc.Func number) callee fits = (fits, tt)
  imported_fits import (import_desc.Table limits) callee fits = absurd fits
  imported_fits import (import_desc.Memory limits) callee fits = absurd fits
  imported_fits import (import_desc.Global ty) callee fits = absurd fits

  -- One more imported function.
  pub import_added : (imports : List Import) (k : ℕ) (import : Import) (callees new : List Callee) (callee : Callee) → k < length imports →
      import ≡ get_or imports k import → CalleesFit host m callees (imported_functions (take k imports)) →
      ImportFits host m import import.desc callee → new ≡ callees ++ callee ∷ [] →
      CalleesFit host m new (imported_functions (take (k + 1) imports))
  import_added imports k import callees new callee within at fit fits pushed =
      let longer : take k imports ++ import ∷ [] ≡ take (k + 1) imports =
      ap (λ (i : Import). take k imports ++ i ∷ []) at ∙ sym (take_more imports k import within) in
      let same : imported_functions (take k imports) ++ with_import import import.desc [] ≡ imported_functions (take (k + 1) imports) =
      sym (one_more (take k imports) import) ∙ ap imported_functions longer in
      subst (λ callees. CalleesFit host m callees (imported_functions (take (k + 1) imports))) (sym pushed)
      (subst (CalleesFit host m (callees ++ callee ∷ [])) same
      (both_fit callees (callee ∷ []) (imported_functions (take k imports)) (with_import import import.desc []) fit
      (imported_fits import import.desc callee fits)))

  -- One more of the module's own.
  pub own_added : (front : List Function) (funcs : List Func) (k : ℕ) (func : Func) (callees new : List Callee) (callee : Callee) →
      k < length funcs → func ≡ get_or funcs k func → CalleesFit host m callees (front ++ map Defined (take k funcs)) →
      CalleeFits host m callee (Defined func) → new ≡ callees ++ callee ∷ [] →
      CalleesFit host m new (front ++ map Defined (take (k + 1) funcs))
  own_added front funcs k func callees new callee within at fit fits pushed =
      let longer : take k funcs ++ func ∷ [] ≡ take (k + 1) funcs =
      ap (λ (f : Func). take k funcs ++ f ∷ []) at ∙ sym (take_more funcs k func within) in
      let same : (front ++ map Defined (take k funcs)) ++ Defined func ∷ [] ≡ front ++ map Defined (take (k + 1) funcs) =
      append_assoc front (map Defined (take k funcs)) (Defined func ∷ []) ∙
      ap (λ l. front ++ l) (made_more (take k funcs) func ∙ ap (map Defined) longer) in
      subst (λ callees. CalleesFit host m callees (front ++ map Defined (take (k + 1) funcs))) (sym pushed)
      (subst (CalleesFit host m (callees ++ callee ∷ [])) same
      (both_fit callees (callee ∷ []) (front ++ map Defined (take k funcs)) (Defined func ∷ []) fit (fits, tt)))
    where
      made_more : (funcs : List Func) (func : Func) → map Defined funcs ++ Defined func ∷ [] ≡ map Defined (funcs ++ func ∷ [])
      made_more [] func = refl
      made_more (first ∷ funcs) func = ap (λ l. Defined first ∷ l) (made_more funcs func)

  -- Each function fits its number.
  pub entries_fit : (callees : List Callee) (functions : List Function) → CalleesFit host m callees functions → (f : ℕ) →
      EntryFits host m (slice_get callees f) (slice_get functions f)
  entries_fit [] [] fit f = tt
  entries_fit [] (function ∷ functions) fit f = absurd fit
  entries_fit (callee ∷ callees) [] fit f = absurd fit
  entries_fit (callee ∷ callees) (function ∷ functions) fit zero = fit.0
  entries_fit (callee ∷ callees) (function ∷ functions) fit (suc f) = entries_fit callees functions fit.1 f
