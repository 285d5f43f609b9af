-- What a run needs of a module's validity.
use Rattle.std.proofs.Common.{◌≡◌, ◌∙◌, ℕ, ◌<◌, ◌≤◌, true, leb, List, Option, Some, None, length, get_or, refl, sym, ap}
use Rattle.std.specs.Prelude.{slice_get}
use Rattle.std.proofs.Math.Logic.{∥∥₁_elim}
use Rattle.std.proofs.Math.Bool.{Bool-set}
use Rattle.std.proofs.lemmas.Bool.{leb-true, le-leb}
use Rattle.std.proofs.lemmas.Option.{slice_get-get_or}
use Rattle.hph_wasm.specs.declared.types.FuncType.{FuncType}
use Rattle.hph_wasm.specs.declared.module.Func.{Func}
use Rattle.hph_wasm.specs.declared.module.Module.{Module}
use Rattle.hph_wasm.specs.ModuleValidity.{IsFuncType, IsValid}
use Rattle.hph_wasm.proofs.Numbered.{all-at, below-there}
use Rattle.hph_wrunner.specs.Callees.{IsTyped}

-- A function of a valid module has a type.
typed : (m : Module) (all : List Func) (k : ℕ) (func : Func) → IsValid m → all ≡ m.funcs → k < length all → func ≡ get_or all k func →
    slice_get m.types func.ty ≡ None → ⊥
typed m all k func valid same within at none =
    let there : slice_get all k ≡ Some func = slice_get-get_or all k func within ∙ ap Some (sym at) in
    let below : func.ty < length m.types = all-at (λ (func : Func). func.ty < length m.types) m.funcs k func valid.outside.func_types
    (ap (λ all. slice_get all k) (sym same) ∙ there) in
    let (ty, is) = below-there m.types func.ty below in
    let no : ⊥ = cc in no

has_type : (m : Module) (all : List Func) (k : ℕ) (func : Func) → ∥ IsValid m ∥₁ → all ≡ m.funcs → k < length all →
    func ≡ get_or all k func → slice_get m.types func.ty ≡ None → ⊥
has_type m all k func valid same within at none = ∥∥₁_elim valid (hlevel) (λ valid. typed m all k func valid same within at none)

-- A type of a valid module has one result at most.
one_result : (m : Module) (number : ℕ) (ty : FuncType) → ∥ IsValid m ∥₁ → slice_get m.types number ≡ Some ty → length ty.results ≤ 1
one_result m number ty valid there = leb-true (length ty.results) 1 (∥∥₁_elim valid (Bool-set (leb (length ty.results) 1) true)
    (λ valid. le-leb (length ty.results) 1 (all-at IsFuncType m.types number ty valid.outside.types there)))

-- A function of a valid module has a type with one result at most.
pub is_typed : (m : Module) (all : List Func) (k : ℕ) (func : Func) → ∥ IsValid m ∥₁ → all ≡ m.funcs → k < length all →
    func ≡ get_or all k func → IsTyped m func
is_typed m all k func valid same within at = by (slice_get m.types func.ty) refl
  where
    by : (ty : Option FuncType) → slice_get m.types func.ty ≡ ty → IsTyped m func
    by None is = absurd (has_type m all k func valid same within at is)
    by (Some ty) is = record { ty = ty; there = is; one = one_result m func.ty ty valid is }
