-- Zeros for locals, and those that were written.
use Rattle.std.proofs.Common.{◌≡◌, ◌∙◌, ◌<◌, ◌+◌, ℕ, suc, List, [], ◌∷◌, ◌++◌, Some, length, take, sym, ap, refl, append_assoc, get_or}
use Rattle.std.specs.Prelude.{slice_get}
use Rattle.std.specs.BTreeMap.{BTreeMap, IsEmpty}
use Rattle.std.proofs.lemmas.List.{take_more, map-append}
use Rattle.std.proofs.lemmas.Option.{slice_get_within, get_or_from_slice_get}
use Rattle.hph_wasm.specs.declared.value.Value.{Value}
use Rattle.hph_wasm.specs.declared.types.ValType.{ValType}
use Rattle.hph_wasm.specs.Values.{value_of, zero_values}
use Rattle.hph_wstate.specs.Written.{values_from}

pub zeros_more : (ts : List ValType) (k : ℕ) (t : ValType) (before new : List Value) (z : Value) → Some t ≡ slice_get ts k →
    z ≡ value_of t 0 → new ≡ (before ++ zero_values (take k ts)) ++ z ∷ [] → new ≡ before ++ zero_values (take (k + 1) ts)
zeros_more ts k t before new z at is e =
    let there : k < length ts = slice_get_within ts k t (sym at) in
    let same : get_or ts k t ≡ t = get_or_from_slice_get ts k t t (sym at) in
    let next : take (k + 1) ts ≡ take k ts ++ t ∷ [] = take_more ts k t there ∙ ap (λ u. take k ts ++ u ∷ []) same in
    e ∙ (append_assoc before (zero_values (take k ts)) (z ∷ []) ∙ ap (λ l. before ++ l) (ap (λ z. zero_values (take k ts) ++ z ∷ []) is ∙
    (sym (map-append (λ ty. value_of ty 0) (take k ts) (t ∷ [])) ∙ ap zero_values (sym next))))

empty_from : (written : BTreeMap ℕ Value) (k : ℕ) (ts : List ValType) → IsEmpty written → values_from written k ts ≡ zero_values ts
empty_from written k [] none = refl
empty_from written k (t ∷ ts) none = rw (none) (ap (λ l. value_of t 0 ∷ l) (empty_from written (suc k) ts none))

-- Where none was written all are zero.
pub none_written : (written : BTreeMap ℕ Value) (ts : List ValType) → IsEmpty written → values_from written 0 ts ≡ zero_values ts
none_written written ts none = empty_from written 0 ts none
