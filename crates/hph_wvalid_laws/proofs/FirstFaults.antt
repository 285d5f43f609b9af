-- A verdict is given on what stands outside code, and on each body in turn.
use Rattle.std.proofs.Common.{◌≡◌, ◌<◌, ◌+◌, inl, inr, ◌⊎◌, ℕ, suc, List, [], ◌∷◌, Option, None, Some, length, take, refl, Bool, true, false}
use Rattle.std.specs.Prelude.{slice_get, reverse}
use Rattle.std.specs.List.{AllByRecursion}
use Rattle.hph_wasm.specs.declared.types.FuncType.{FuncType}
use Rattle.hph_wasm.specs.declared.module.Func.{Func}
use Rattle.hph_wasm.specs.declared.module.Module.{Module}
use Rattle.hph_wasm.specs.Functions.{imported_functions}
use Rattle.hph_wasm.specs.Rows.{list_size}
use Rattle.hph_wasm.specs.Validity.{IsFunc, body_context}
use Rattle.hph_wasm.specs.Faults.{outside_code, outside, in_body}
use Rattle.hph_wasm.proofs.Numbered.{below-there}
use Rattle.hph_wvalid.specs.Checking.{Verdict, Fine, Fault, nothing, closed_by, check_list}
use Rattle.hph_wvalid.specs.Functions.{IsFaultOf}
use Rattle.hph_wvalid.specs.Outside.{are_types, are_contents}
use Rattle.hph_wvalid.specs.Spaces.{spaces_of}
use Rattle.hph_wvalid.proofs.Bodies.{BodyTold, body_told}
use Rattle.hph_wvalid.proofs.OutsideLaws.{outside_valid, valid_outside}
use Rattle.hph_wvalid_laws.specs.Decided.{OutsideIsDecided, BodyIsDecided, ModuleIsDecided}

-- Where each is of one kind or of the other, all are of the one, or there is a first of the other.
unfoldable pub all-or-first : {X : Type 0} (P Q : X → Type 0) (xs : List X) → AllByRecursion (λ x. P x ⊎ Q x) xs →
    AllByRecursion P xs ⊎ ((n : ℕ) × (x : X) × (slice_get xs n ≡ Some x) × AllByRecursion P (take n xs) × Q x)
all-or-first P Q [] each = inl tt
all-or-first P Q (x ∷ xs) (inr other, rest) = inr (0, x, refl, tt, other)
all-or-first P Q (x ∷ xs) (inl one, rest) = elim (all-or-first P Q xs rest) [
  | inl all ↦ inl (one, all)
  | inr (n, y, there, before, other) ↦ inr (suc n, y, there, (one, before), other)
]

module _ (m : Module) where
  -- By what the tests of both halves give.
  unfoldable pub outside_by : (types contents : Bool) → are_types m (spaces_of m) ≡ types → are_contents m (spaces_of m) ≡ contents → OutsideIsDecided m
  outside_by true true with_types with_contents = inl (outside_valid m with_types with_contents)
  outside_by true false with_types without = inr (λ valid. let passed = (valid_outside m valid).1 in let no : ⊥ = cc in no)
  outside_by false contents without tested = inr (λ valid. let passed = (valid_outside m valid).0 in let no : ⊥ = cc in no)

  unfoldable pub outside_decided : OutsideIsDecided m
  outside_decided = outside_by (are_types m (spaces_of m)) (are_contents m (spaces_of m)) refl refl

  module _ (ty : FuncType) (func : Func) where
    unfoldable pub body_by : (v : Verdict) → BodyTold m ty func v → BodyIsDecided m ty func
    body_by (Fine stack) told = inl told
    body_by (Fault k) told = inr (k, told)

    unfoldable pub body_decided : BodyIsDecided m ty func
    body_decided = body_by
        (closed_by 0 (list_size func.body) (reverse ty.results) nothing (check_list m (body_context ty func) func.body nothing))
        (body_told m ty func)

  -- A function has a fault.
  abbrev HasFault : Func → Type 0
  HasFault func = (k : ℕ) × IsFaultOf m func k

  unfoldable pub typed_by : (ty : FuncType) (func : Func) → slice_get m.types func.ty ≡ Some ty → BodyIsDecided m ty func → IsFunc m func ⊎ HasFault func
  typed_by ty func known (inl valid) = inl (ty, known, valid)
  typed_by ty func known (inr (k, fault)) = inr (k, (ty, known, fault))

  unfoldable pub function_by : (found : Option FuncType) (func : Func) → slice_get m.types func.ty ≡ found → func.ty < length m.types →
      IsFunc m func ⊎ HasFault func
  function_by None func missing typed = let (ty, known) = below-there m.types func.ty typed in let no : ⊥ = cc in absurd no
  function_by (Some ty) func known typed = typed_by ty func known (body_decided ty func)

  -- A function whose type is there is valid, or has a fault.
  unfoldable pub function_decided : (func : Func) → func.ty < length m.types → IsFunc m func ⊎ HasFault func
  function_decided func typed = function_by (slice_get m.types func.ty) func refl typed

  unfoldable pub functions_decided : (funcs : List Func) → AllByRecursion (λ func. func.ty < length m.types) funcs →
      AllByRecursion (λ func. IsFunc m func ⊎ HasFault func) funcs
  functions_decided [] typed = tt
  functions_decided (func ∷ funcs) (first, rest) = (function_decided func first, functions_decided funcs rest)

  unfoldable pub module_by : OutsideIsDecided m → ModuleIsDecided m
  module_by (inr invalid) = inr (outside_code, 0, outside invalid)
  module_by (inl valid) = elim (all-or-first (IsFunc m) HasFault m.funcs (functions_decided m.funcs valid.func_types)) [
    | inl all ↦ inl (record { outside = valid; funcs = all })
    | inr (n, func, there, before, (k, (ty, known, fault))) ↦
        inr (length (imported_functions m.imports) + n, k, in_body n k func ty valid there known before fault)
  ]

  unfoldable pub module_decided : ModuleIsDecided m
  module_decided = module_by outside_decided
