-- The rows of imports, one more at a time.
use Rattle.std.proofs.Common.{◌≡◌, ◌∙◌, inl, inr, ℕ, suc, ◌+◌, ◌<◌, List, [], ◌∷◌, ◌++◌, Some, length, take, get_or, refl, sym, ap, subst, arith}
use Rattle.std.specs.Prelude.{slice_get}
use Rattle.std.specs.List.{AllByRecursion}
use Rattle.std.proofs.Math.Seq.{take-length}
use Rattle.std.proofs.lemmas.List.{take_more, length-take-le}
use Rattle.std.proofs.lemmas.Option.{slice_get-get_or}
use Rattle.hph_wasm.specs.declared.module.ImportDesc.{ImportDesc}
use Rattle.hph_wasm.specs.declared.module.ImportDesc.TheVariants as import_desc
use Rattle.hph_wasm.specs.declared.module.Import.{Import}
use Rattle.hph_wasm.specs.declared.module.Module.{Module}
use Rattle.hph_wasm.specs.Configuration.{Host}
use Rattle.hph_wasm.specs.Run.{HasThing, HasImport, HasMain, IsLinked, IsFirstUnlinked, Unlinked, unlinked, HasOneObstacle}
use Rattle.hph_wasm.proofs.Numbered.{all-at}
use Rattle.hph_wlink.specs.Linking.{IsRowOf, IsRow, AreRows, IsFunctionDesc, AreFunctions}

module _ {H E : Type 0} (host : Host H E) (m : Module) where
  has_thing : (import : Import) (desc : ImportDesc) (row : ℕ) → IsRowOf host m import desc row → HasThing host m import desc
  has_thing import (import_desc.Func number) row (ty, typed, found) = (ty, typed, row, found)
  has_thing import (import_desc.Table limits) row is = absurd is
  has_thing import (import_desc.Memory limits) row is = absurd is
  has_thing import (import_desc.Global ty) row is = absurd is

  -- What has rows the host has.
  pub are_there : (imports : List Import) (rows : List ℕ) → AreRows host m imports rows → AllByRecursion (HasImport host m) imports
  are_there [] rows are = tt
  are_there (import ∷ imports) [] are = absurd are
  are_there (import ∷ imports) (row ∷ rows) are = (has_thing import import.desc row are.0, are_there imports rows are.1)

  is_function : (import : Import) (desc : ImportDesc) (row : ℕ) → IsRowOf host m import desc row → IsFunctionDesc desc
  is_function import (import_desc.Func number) row is = tt
  is_function import (import_desc.Table limits) row is = absurd is
  is_function import (import_desc.Memory limits) row is = absurd is
  is_function import (import_desc.Global ty) row is = absurd is

  -- They are functions.
  pub are_functions : (imports : List Import) (rows : List ℕ) → AreRows host m imports rows → AreFunctions imports
  are_functions [] rows are = tt
  are_functions (import ∷ imports) [] are = absurd are
  are_functions (import ∷ imports) (row ∷ rows) are = (is_function import import.desc row are.0, are_functions imports rows are.1)

  pub one_more_row : (imports : List Import) (rows : List ℕ) (import : Import) (row : ℕ) → AreRows host m imports rows →
      IsRow host m import row → AreRows host m (imports ++ import ∷ []) (rows ++ row ∷ [])
  one_more_row [] [] import row are is = (is, tt)
  one_more_row [] (other ∷ rows) import row are is = absurd are
  one_more_row (first ∷ imports) [] import row are is = absurd are
  one_more_row (first ∷ imports) (other ∷ rows) import row are is = (are.0, one_more_row imports rows import row are.1 is)

  -- There are as many.
  pub as_many : (imports : List Import) (rows : List ℕ) → AreRows host m imports rows → length imports ≡ length rows
  as_many [] [] are = refl
  as_many [] (row ∷ rows) are = absurd are
  as_many (import ∷ imports) [] are = absurd are
  as_many (import ∷ imports) (row ∷ rows) are = ap suc (as_many imports rows are.1)

  -- The rows of so many imports, and of one more.
  pub more_rows : (imports : List Import) (rows new : List ℕ) (n : ℕ) (import : Import) (row : ℕ) → AreRows host m (take n imports) rows →
      n < length imports → import ≡ get_or imports n import → IsRow host m import row → new ≡ rows ++ row ∷ [] →
      AreRows host m (take (n + 1) imports) new
  more_rows imports rows new n import row are within at is pushed =
      let longer : take n imports ++ import ∷ [] ≡ take (n + 1) imports =
      ap (λ (i : Import). take n imports ++ i ∷ []) at ∙ sym (take_more imports n import within) in
      subst (AreRows host m (take (n + 1) imports)) (sym pushed)
      (subst (λ imports. AreRows host m imports (rows ++ row ∷ [])) longer (one_more_row (take n imports) rows import row are is))

  -- The first import that the host doesn't have, where it has those before.
  pub first_missing : (imports : List Import) (rows : List ℕ) (n k : ℕ) (import : Import) → imports ≡ m.imports →
      AreRows host m (take n imports) rows → n < length imports → import ≡ get_or imports n import → (HasImport host m import → ⊥) →
      k ≡ length rows → IsFirstUnlinked host m k
  first_missing imports rows n k import all are within at missing counted =
      let same : n ≡ k = sym (length-take-le n imports (omega arith)) ∙ as_many (take n imports) rows are ∙ sym counted in
      let there : slice_get imports n ≡ Some import = slice_get-get_or imports n import within ∙ ap Some (sym at) in
      subst (IsFirstUnlinked host m) same (
        subst (AllByRecursion (HasImport host m)) (ap (take n) all) (are_there (take n imports) rows are),
        inl (import, ap (λ imports. slice_get imports n) (sym all) ∙ there, missing),
      )

  -- Only `main` is missing.
  pub main_missing : (rows : List ℕ) (k : ℕ) → AreRows host m m.imports rows → (HasMain m → ⊥) → k ≡ length m.imports →
      IsFirstUnlinked host m k
  main_missing rows k are missing counted = (
    subst (AllByRecursion (HasImport host m)) (sym (ap (λ n. take n m.imports) counted ∙ take-length m.imports)) (are_there m.imports rows are),
    inr (counted, missing),
  )

  -- One import is the first that is missing.
  pub one_missing : HasOneObstacle host m → (j k : ℕ) → IsFirstUnlinked host m j → IsFirstUnlinked host m k → j ≡ k
  one_missing one j k first other = let same : Unlinked j ≡ Unlinked k = one.0 (Unlinked j) (Unlinked k) (unlinked j first) (unlinked k other) in cc

  -- None is where the module is linked.
  pub none_missing : IsLinked host m → (k : ℕ) → IsFirstUnlinked host m k → ⊥
  none_missing linked k (before, inl (import, there, missing)) = missing (all-at (HasImport host m) m.imports k import linked.imports there)
  none_missing linked k (before, inr (all, missing)) = missing linked.main
