-- What the code looks up.
use Rattle.std.proofs.Common.{◌≡◌, ◌∙◌, ◌≤◌, ◌<◌, ℕ, zero, suc, ◌^◌, ◌-◌, List, [], ◌∷◌, ◌++◌, Option, Some, None, Bool, true, false, map, length, get_or, reverse, refl, sym, ap, arith}
use Rattle.std.proofs.lemmas.List.{get_or-reverse, length-reverse, reverse-append, reverse-reverse}
use Rattle.std.proofs.Math.Pow.{pow_mono}
use Rattle.std.specs.Cmp.Lexicographic.{pointwise}
use Rattle.std.specs.Prelude.{◌&&◌, slice_get, option_and_then, option_map}
use Rattle.std.proofs.lemmas.Option.{slice_get-map, slice_get-get_or, slice_get_past}
use Rattle.hph_wasm.specs.declared.types.ValType.{ValType}
use Rattle.hph_wasm.specs.declared.types.ValType.TheVariants.{I32, I64}
use Rattle.hph_wasm.specs.declared.module.Module.{Module}
use Rattle.hph_wasm.specs.Functions.{Function, functions, type_number, func_type}
use Rattle.hph_wasm.specs.Reduction.{same_types}

-- Where a test tells two types apart, it tells two lists of types apart at each place.
pub same_types_by : (eq : ValType → ValType → Bool) → eq I32 I32 ≡ true → eq I64 I64 ≡ true → eq I32 I64 ≡ false → eq I64 I32 ≡ false →
    (ts us : List ValType) → pointwise eq ts us ≡ same_types ts us
same_types_by eq a b c d [] [] = refl
same_types_by eq a b c d [] (u ∷ us) = refl
same_types_by eq a b c d (I32 ∷ ts) [] = refl
same_types_by eq a b c d (I64 ∷ ts) [] = refl
same_types_by eq a b c d (I32 ∷ ts) (I32 ∷ us) = ap (λ same. same && pointwise eq ts us) a ∙ same_types_by eq a b c d ts us
same_types_by eq a b c d (I64 ∷ ts) (I64 ∷ us) = ap (λ same. same && pointwise eq ts us) b ∙ same_types_by eq a b c d ts us
same_types_by eq a b c d (I32 ∷ ts) (I64 ∷ us) = ap (λ same. same && pointwise eq ts us) c
same_types_by eq a b c d (I64 ∷ ts) (I32 ∷ us) = ap (λ same. same && pointwise eq ts us) d

found_none : (m : Module) (o : Option Function) → option_map type_number o ≡ None → option_and_then (λ f. slice_get m.types (type_number f)) o ≡ None
found_none m None e = refl
found_none m (Some f) e = let no : ⊥ = cc in absurd no

found_some : (m : Module) (o : Option Function) (n : ℕ) → option_map type_number o ≡ Some n → option_and_then (λ f. slice_get m.types (type_number f)) o ≡ slice_get m.types n
found_some m None n e = let no : ⊥ = cc in absurd no
found_some m (Some f) n e = let same : type_number f ≡ n = cc in ap (slice_get m.types) same

-- A function that isn't there has no type.
pub func_type_none : (m : Module) (f : ℕ) → slice_get (map type_number (functions m)) f ≡ None → func_type m f ≡ None
func_type_none m f e = found_none m (slice_get (functions m) f) (sym (slice_get-map type_number (functions m) f) ∙ e)

-- One that is there has the type with its number.
pub func_type_some : (m : Module) (f n : ℕ) → slice_get (map type_number (functions m)) f ≡ Some n → func_type m f ≡ slice_get m.types n
func_type_some m f n e = found_some m (slice_get (functions m) f) n (sym (slice_get-map type_number (functions m) f) ∙ e)

-- Powers from 16 on.
pub big_power : (n : ℕ) → 4 ≤ n → 16 ≤ 2 ^ n
big_power n h = pow_mono h

-- Labels are numbered from the innermost, which is the last.
pub label_within : (labels : List (List ValType)) (k : ℕ) → k < length labels → slice_get labels (length labels - 1 - k) ≡ slice_get (reverse labels) k
label_within labels k h =
    let same = length-reverse labels in
    let here : slice_get labels (length labels - 1 - k) ≡ Some (get_or labels (length labels - 1 - k) []) = slice_get-get_or labels (length labels - 1 - k) [] (omega (arith, h)) in
    here ∙ ap Some (sym (get_or-reverse labels k [] h)) ∙ sym (slice_get-get_or (reverse labels) k [] (omega (arith, h, same)))

pub label_past : (labels : List (List ValType)) (k : ℕ) → length labels ≤ k → slice_get (reverse labels) k ≡ None
label_past labels k h = let same = length-reverse labels in slice_get_past (reverse labels) k (omega (arith, h, same))

-- A label that is entered is the innermost one.
pub label_entered : (labels : List (List ValType)) (label : List ValType) → reverse (labels ++ label ∷ []) ≡ label ∷ reverse labels
label_entered labels label = reverse-append labels (label ∷ [])

-- Where it is left again, the others are as before.
pub label_left : (labels others : List (List ValType)) (label last : List ValType) → labels ++ label ∷ [] ≡ others ++ last ∷ [] → others ≡ labels
label_left labels others label last e =
    let both : label ∷ reverse labels ≡ last ∷ reverse others = sym (label_entered labels label) ∙ ap reverse e ∙ label_entered others last in
    let same : reverse others ≡ reverse labels = cc in
    sym (reverse-reverse others) ∙ ap reverse same ∙ reverse-reverse labels

-- Locals are numbered behind the parameters.
pub local_within : (params locals : List ValType) (k : ℕ) → k < length params → slice_get params k ≡ slice_get (params ++ locals) k
local_within [] locals k h = absurd (omega (arith, h))
local_within (p ∷ params) locals zero h = refl
local_within (p ∷ params) locals (suc k) h = local_within params locals k (omega (arith, h))

pub local_behind : (params locals : List ValType) (k : ℕ) → length params ≤ k → slice_get locals (k - length params) ≡ slice_get (params ++ locals) k
local_behind [] locals k h = ap (slice_get locals) (omega arith)
local_behind (p ∷ params) locals zero h = absurd (omega (arith, h))
local_behind (p ∷ params) locals (suc k) h =
    let same : suc k - suc (length params) ≡ k - length params = omega arith in
    ap (slice_get locals) same ∙ local_behind params locals k (omega (arith, h))
