-- The arguments of a call.
use Rattle.std.proofs.Common.{map, ◌^◌, ◌-◌, ◌≡◌, ◌≢◌, ◌∙◌, ◌≤◌, ◌<◌, ◌+◌, ℕ, zero, suc, List, [], ◌∷◌, ◌++◌, Some, None, Bool, true, false, length, take, drop, reverse, refl, sym, ap, subst, arith, append_assoc}
use Rattle.std.proofs.lemmas.List.{append-nil, reverse-append, length-reverse, length-take-le, reverse-reverse, map-append, take_more}
use Rattle.std.specs.Prelude.{slice_get}
use Rattle.std.proofs.lemmas.Option.{slice_get_within, get_or_from_slice_get}
use Rattle.std.proofs.Math.Seq.{take-length}
use Rattle.hph_wstate.specs.Changes.{KindFits, AllFit, Holds}
use Rattle.hph_wasm.specs.declared.types.ValType.{ValType}
use Rattle.hph_wasm.specs.declared.types.ValType.TheVariants.{I32, I64}
use Rattle.hph_wasm.specs.declared.value.Value.{Value}
use Rattle.hph_wasm.specs.declared.value.Value.TheVariants as value
use Rattle.hph_wasm.specs.HostAnswers.{FitParams}
use Rattle.hph_wasm.specs.Values.{number_of, type_of, types, width}
use Rattle.hph_pile.proofs.Turned.{element_turned}
use Rattle.hph_wasm.specs.Reduction.{arguments_onto, arguments}

types_reversed : (values : List Value) → types (reverse values) ≡ reverse (types values)
types_reversed [] = refl
types_reversed (v ∷ values) =
    ap types (reverse-append (v ∷ []) values) ∙ (map-append type_of (reverse values) (v ∷ []) ∙
    (ap (λ l. l ++ type_of v ∷ []) (types_reversed values) ∙ sym (reverse-append (type_of v ∷ []) (types values))))

-- Values of the types are taken, the last one first.
onto : (passed : List Value) (params : List ValType) (values : List Value) → types (take (length params) values) ≡ params →
    arguments_onto passed params values ≡
    Some (record { passed = reverse (take (length params) values) ++ passed; below = drop (length params) values })
onto passed [] values h = refl
onto passed (ty ∷ params) [] h = let no : ⊥ = cc in absurd no
onto passed (I32 ∷ params) (value.I64 n ∷ values) h = let no : ⊥ = cc in absurd no
onto passed (I64 ∷ params) (value.I32 n ∷ values) h = let no : ⊥ = cc in absurd no
onto passed (I32 ∷ params) (value.I32 n ∷ values) h =
    let rest : types (take (length params) values) ≡ params = cc in
    onto (value.I32 n ∷ passed) params values rest ∙
    ap (λ (l : List Value). Some (record { passed = l; below = drop (length params) values }))
    (sym (append_assoc (reverse (take (length params) values)) (value.I32 n ∷ []) passed) ∙
    ap (λ l. l ++ passed) (sym (reverse-append (value.I32 n ∷ []) (take (length params) values))))
onto passed (I64 ∷ params) (value.I64 n ∷ values) h =
    let rest : types (take (length params) values) ≡ params = cc in
    onto (value.I64 n ∷ passed) params values rest ∙
    ap (λ (l : List Value). Some (record { passed = l; below = drop (length params) values }))
    (sym (append_assoc (reverse (take (length params) values)) (value.I64 n ∷ []) passed) ∙
    ap (λ l. l ++ passed) (sym (reverse-append (value.I64 n ∷ []) (take (length params) values))))

-- Else there are no arguments.
pub none_onto : (passed : List Value) (params : List ValType) (values : List Value) → (types (take (length params) values) ≢ params) →
    arguments_onto passed params values ≡ None
none_onto passed [] values h = absurd (h refl)
none_onto passed (I32 ∷ params) [] h = refl
none_onto passed (I64 ∷ params) [] h = refl
none_onto passed (I32 ∷ params) (value.I64 n ∷ values) h = refl
none_onto passed (I64 ∷ params) (value.I32 n ∷ values) h = refl
none_onto passed (I32 ∷ params) (value.I32 n ∷ values) h = none_onto (value.I32 n ∷ passed) params values (λ e. h (ap (λ l. I32 ∷ l) e))
none_onto passed (I64 ∷ params) (value.I64 n ∷ values) h = none_onto (value.I64 n ∷ passed) params values (λ e. h (ap (λ l. I64 ∷ l) e))

-- The arguments that were taken off the stack.
pub there : (params : List ValType) (values passed : List Value) → passed ≡ reverse (take (length params) values) → types passed ≡ params →
    arguments params values ≡ Some (record { passed = passed; below = drop (length params) values })
there params values passed e h =
    let size : length (reverse params) ≡ length params = length-reverse params in
    let turned : types (take (length (reverse params)) values) ≡ reverse params =
    ap (λ n. types (take n values)) size ∙ (ap types (sym (ap reverse e ∙ reverse-reverse (take (length params) values))) ∙
    (types_reversed passed ∙ ap reverse h)) in
    onto [] (reverse params) values turned ∙
    ap (λ (l : List Value). Some (record { passed = l; below = drop (length (reverse params)) values })) (append-nil (reverse (take (length (reverse params)) values))) ∙
    ap (λ (n : ℕ). Some (record { passed = reverse (take n values); below = drop n values })) size ∙
    ap (λ (l : List Value). Some (record { passed = l; below = drop (length params) values })) (sym e)

get_front : {A : Type 0} (n i : ℕ) (xs : List A) → i < n → slice_get (take n xs) i ≡ slice_get xs i
get_front zero i xs h = absurd (omega arith)
get_front (suc n) i [] h = refl
get_front (suc n) zero (x ∷ xs) h = refl
get_front (suc n) (suc i) (x ∷ xs) h = get_front n i xs (omega arith)

one_more : {A : Type 0} (xs : List A) (k : ℕ) (x : A) → slice_get xs k ≡ Some x → take (k + 1) xs ≡ take k xs ++ x ∷ []
one_more xs k x e = take_more xs k x (slice_get_within xs k x e) ∙ ap (λ y. take k xs ++ y ∷ []) (get_or_from_slice_get xs k x x e)

pub one_more_fits : (values : List Value) (ts : List ValType) (k : ℕ) → types (take k values) ≡ take k ts → KindFits values ts k true →
    types (take (k + 1) values) ≡ take (k + 1) ts
one_more_fits values ts k h (v, e, f) =
    ap types (one_more values k v e) ∙ (map-append type_of (take k values) (v ∷ []) ∙
    (ap (λ l. l ++ type_of v ∷ []) h ∙ sym (one_more ts k (type_of v) f)))

kind_at : (n k : ℕ) (values : List Value) (ts : List ValType) → k < n → k < length ts → types (take n values) ≡ ts →
    (v : Value) × (slice_get values k ≡ Some v) × (slice_get ts k ≡ Some (type_of v))
kind_at zero k values ts h g e = absurd (omega arith)
kind_at (suc n) k [] [] h g e = absurd (omega arith)
kind_at (suc n) k [] (t ∷ ts) h g e = let no : ⊥ = cc in absurd no
kind_at (suc n) k (v ∷ values) [] h g e = absurd (omega arith)
kind_at (suc n) zero (v ∷ values) (t ∷ ts) h g e = let same : type_of v ≡ t = cc in (v, refl, ap Some (sym same))
kind_at (suc n) (suc k) (v ∷ values) (t ∷ ts) h g e = let rest : types (take n values) ≡ ts = cc in kind_at n k values ts (omega arith) (omega arith) rest

pub other_kind : (n k : ℕ) (values : List Value) (ts : List ValType) → k < n → k < length ts → KindFits values ts k false →
    types (take n values) ≢ ts
other_kind n k values ts h g none e = let at = kind_at n k values ts h g e in none at.0 at.1 at.2

pub holds_all : (params : List ValType) (values : List Value) (n : ℕ) → n ≡ length params → n ≤ length values →
    types (take n values) ≡ take n (reverse params) → Holds params values true
holds_all params values n e few h =
    let size : length (reverse params) ≡ n = length-reverse params ∙ sym e in
    let whole : take n (reverse params) ≡ reverse params = subst (λ k. take k (reverse params) ≡ reverse params) size (take-length (reverse params)) in
    (subst (λ k. k ≤ length values) e few, subst (λ k. types (take k values) ≡ reverse params) e (h ∙ whole))

pub holds_none : (params : List ValType) (values : List Value) → (types (take (length params) values) ≢ reverse params) → Holds params values false
holds_none params values h = none_onto [] (reverse params) values
    (λ e. h (subst (λ n. types (take n values) ≡ reverse params) (length-reverse params) e))

length_types : (values : List Value) → length (types values) ≡ length values
length_types [] = refl
length_types (v ∷ values) = ap suc (length_types values)

length_front : {A : Type 0} (n : ℕ) (xs : List A) → length (take n xs) ≤ length xs
length_front zero xs = omega arith
length_front (suc n) [] = omega arith
length_front (suc n) (x ∷ xs) = let rest = length_front n xs in omega arith

length_within : {A : Type 0} (n : ℕ) (xs : List A) → length (take n xs) ≤ n
length_within zero xs = omega arith
length_within (suc n) [] = omega arith
length_within (suc n) (x ∷ xs) = let rest = length_within n xs in omega arith

front_of_front : {A : Type 0} (n m : ℕ) (xs : List A) → n ≤ m → take n (take m xs) ≡ take n xs
front_of_front zero m xs h = refl
front_of_front (suc n) zero xs h = absurd (omega arith)
front_of_front (suc n) (suc m) [] h = refl
front_of_front (suc n) (suc m) (x ∷ xs) h = ap (λ l. x ∷ l) (front_of_front n m xs (omega arith))

pub holds_few : (params : List ValType) (values : List Value) → length values < length params → Holds params values false
holds_few params values h = holds_none params values (λ e.
    let few : length (take (length params) values) ≤ length values = length_front (length params) values in
    let size : length (take (length params) values) ≡ length params =
    sym (length_types (take (length params) values)) ∙ (ap length e ∙ length-reverse params) in
    absurd (omega arith))

pub held_few : (params : List ValType) (stack : List Value) (own n : ℕ) → n ≡ length params → own < n → arguments params (take own stack) ≡ None
held_few params stack own n e h = holds_few params (take own stack) (let few = length_within own stack in omega arith)

pub held_from : (params : List ValType) (stack : List Value) (own n : ℕ) (r : Bool) → n ≡ length params → n ≤ own → own ≤ length stack →
    AllFit params stack r → Holds params (take own stack) r
held_from params stack own n true e h few fit =
    let same : take (length params) (take own stack) ≡ take (length params) stack = front_of_front (length params) own stack (omega arith) in
    let all : length (take own stack) ≡ own = length-take-le own stack few in
    (omega arith, ap types same ∙ fit)
held_from params stack own n false e h few fit =
    let same : take (length params) (take own stack) ≡ take (length params) stack = front_of_front (length params) own stack (omega arith) in
    holds_none params (take own stack) (λ p. fit (sym (ap types same) ∙ p))

pub other_kind_turned : (params : List ValType) (values : List Value) (k n : ℕ) → n ≡ length params → k < n → KindFits values (reverse params) k false →
    types (take (length params) values) ≡ reverse params → ⊥
other_kind_turned params values k n e h none p =
    let size : length (reverse params) ≡ length params = length-reverse params in
    other_kind (length params) k values (reverse params) (omega arith) (omega arith) none p

-- The arguments that are on the stack.
pub held : (params : List ValType) (values : List Value) → Holds params values true →
    arguments params values ≡ Some (record { passed = reverse (take (length params) values); below = drop (length params) values })
held params values (few, h) = there params values (reverse (take (length params) values)) refl
    (types_reversed (take (length params) values) ∙ (ap reverse h ∙ reverse-reverse params))

-- ---- numbers of arguments

fit_more : (ts : List ValType) (ns : List ℕ) (t : ValType) (n : ℕ) → FitParams ts ns → n < 2 ^ width t → FitParams (ts ++ t ∷ []) (ns ++ n ∷ [])
fit_more [] [] t n f h = (h, tt)
fit_more [] (k ∷ ns) t n f h = absurd f
fit_more (u ∷ ts) [] t n f h = absurd f
fit_more (u ∷ ts) (k ∷ ns) t n f h = (f.0, fit_more ts ns t n f.1 h)

type_at : (values : List Value) (k : ℕ) (v : Value) → slice_get values k ≡ Some v → slice_get (types values) k ≡ Some (type_of v)
type_at [] k v e = let no : ⊥ = cc in absurd no
type_at (w ∷ values) zero v e = let same : w ≡ v = cc in ap (λ x. Some (type_of x)) same
type_at (w ∷ values) (suc k) v e = type_at values k v e

module _ (stack : List Value) (own : ℕ) (params : List ValType) (few : own ≤ length stack) (holds : Holds params (take own stack) true) where
  abbrev passed : List Value
  passed = reverse (take (length params) (take own stack))

  enough : length params ≤ own
  enough = let whole = length-take-le own stack few in let held = holds.0 in omega arith

  size : length passed ≡ length params
  size = length-reverse (take (length params) (take own stack)) ∙ length-take-le (length params) (take own stack) holds.0

  typed : types passed ≡ params
  typed = types_reversed (take (length params) (take own stack)) ∙ (ap reverse holds.1 ∙ reverse-reverse params)

  argument_at : (k : ℕ) (v : Value) → k < length params → Some v ≡ slice_get stack (length params - 1 - k) → slice_get passed k ≡ Some v
  argument_at k v h at =
      let front : take (length params) (take own stack) ≡ take (length params) stack = front_of_front (length params) own stack enough in
      let long : length (take (length params) stack) ≡ length params = let held = enough in length-take-le (length params) stack (omega arith) in
      let here : slice_get (take (length params) stack) (length params - 1 - k) ≡ Some v =
      get_front (length params) (length params - 1 - k) stack (omega arith) ∙ sym at in
      ap (λ l. slice_get (reverse l) k) front ∙ (sym (element_turned (take (length params) stack) k (omega arith)) ∙
      (ap (λ n. slice_get (take (length params) stack) (n - 1 - k)) long ∙ here))

  pub one_more_number : (k n : ℕ) (v : Value) (numbers new : List ℕ) → k < length params → Some v ≡ slice_get stack (length params - 1 - k) →
      n ≡ number_of v → n < 2 ^ width (type_of v) → new ≡ numbers ++ n ∷ [] →
      (numbers ≡ map number_of (take k (reverse (take (length params) (take own stack))))) × FitParams (take k params) numbers →
      (new ≡ map number_of (take (k + 1) (reverse (take (length params) (take own stack))))) × FitParams (take (k + 1) params) new
  one_more_number k n v numbers new h at is fits more (so_far, fit) =
      let there : slice_get passed k ≡ Some v = argument_at k v h at in
      let kind : slice_get params k ≡ Some (type_of v) = ap (λ l. slice_get l k) (sym typed) ∙ type_at passed k v there in (
        more ∙ (ap (λ l. l ++ n ∷ []) so_far ∙ (ap (λ n. map number_of (take k passed) ++ n ∷ []) is ∙
            (sym (map-append number_of (take k passed) (v ∷ [])) ∙ ap (map number_of) (sym (one_more passed k v there))))),
        subst (λ l. FitParams (take (k + 1) params) l) (sym more)
            (subst (λ l. FitParams l (numbers ++ n ∷ [])) (sym (one_more params k (type_of v) kind)) (fit_more (take k params) numbers (type_of v) n fit fits)),
      )

  pub all_numbers : (k : ℕ) (numbers : List ℕ) → k ≡ length params →
      (numbers ≡ map number_of (take k (reverse (take (length params) (take own stack))))) × FitParams (take k params) numbers →
      (numbers ≡ map number_of (reverse (take (length params) (take own stack)))) × FitParams params numbers
  all_numbers k numbers e (so_far, fit) = (
    so_far ∙ ap (map number_of) (ap (λ n. take n passed) (e ∙ sym size) ∙ take-length passed),
    subst (λ l. FitParams l numbers) (ap (λ n. take n params) e ∙ take-length params) fit,
  )
