-- Values have the types that validity gives them: locals, results, arguments, and what is on the stack.
use Rattle.std.proofs.Common.{◌≡◌, ◌≤◌, ◌<◌, ◌∙◌, ℕ, zero, suc, List, [], ◌∷◌, ◌++◌, Option, Some, None, Bool, true, false, length, reverse, take, refl, sym, ap, arith}
use Rattle.std.specs.Prelude.{slice_get, slice_set, ◌&&◌}
use mathlib.Core.List.{reverse_aux}
use Rattle.hph_wasm.specs.declared.types.ValType.{ValType}
use Rattle.hph_wasm.specs.declared.types.ValType.TheVariants.{I32, I64}
use Rattle.hph_wasm.specs.declared.types.FuncType.{FuncType}
use Rattle.hph_wasm.specs.declared.value.Value.{Value}
use Rattle.hph_wasm.specs.declared.value.Value.TheVariants as value
use Rattle.hph_wasm.specs.Choice.{popped, with_top}
use Rattle.hph_wasm.specs.Values.{value_of, type_of, zero_values}
use Rattle.hph_wasm.specs.Reduction.{Arguments, arguments_onto, results, same_types, same_func_type}
use Rattle.hph_wasm.specs.Values.{types}

-- Zeros have the types of the locals.
pub types-zero : (ts : List ValType) → types (zero_values ts) ≡ ts
types-zero [] = refl
types-zero (I32 ∷ ts) = ap (λ ts. I32 ∷ ts) (types-zero ts)
types-zero (I64 ∷ ts) = ap (λ ts. I64 ∷ ts) (types-zero ts)

-- A value of a type has it.
pub types-value : (ty : ValType) (n : ℕ) → type_of (value_of ty n) ≡ ty
types-value I32 n = refl
types-value I64 n = refl

-- What a host's function gives has the types of its results.
pub types-results : (ts : List ValType) (result : Option ℕ) (values : List Value) → results ts result ≡ Some values → types values ≡ reverse ts
types-results [] None values given = let same : [] ≡ values = cc in ap types (sym same)
types-results [] (Some n) values given = let none : ⊥ = cc in absurd none
types-results (ty ∷ []) None values given = let none : ⊥ = cc in absurd none
types-results (ty ∷ []) (Some n) values given =
    let same : value_of ty n ∷ [] ≡ values = cc in ap types (sym same) ∙ ap (λ t. t ∷ []) (types-value ty n)
types-results (ty ∷ other ∷ ts) None values given = let none : ⊥ = cc in absurd none
types-results (ty ∷ other ∷ ts) (Some n) values given = let none : ⊥ = cc in absurd none

-- What passes for values of these types are those values, the first one first.
pub record Passes (passed : List Value) (params : List ValType) (values : List Value) (below : List ValType) : Type 0 where
  pub call : Arguments
  pub taken : arguments_onto passed params values ≡ Some call
  pub passed_types : types call.passed ≡ reverse_aux params (types passed)
  pub below_types : types call.below ≡ below

-- Where the stack begins with these types, a call finds its arguments.
pub passes : (passed : List Value) (params : List ValType) (values : List Value) (below : List ValType) → types values ≡ params ++ below →
    Passes passed params values below
passes passed [] values below typed =
    record { call = record { passed = passed; below = values }; taken = refl; passed_types = refl; below_types = typed }
passes passed (ty ∷ params) [] below typed = let none : ⊥ = cc in absurd none
passes passed (I32 ∷ params) (value.I32 n ∷ values) below typed =
    let p = passes (value.I32 n ∷ passed) params values below cc in
    record { call = p.call; taken = p.taken; passed_types = p.passed_types; below_types = p.below_types }
passes passed (I32 ∷ params) (value.I64 n ∷ values) below typed = let none : ⊥ = cc in absurd none
passes passed (I64 ∷ params) (value.I32 n ∷ values) below typed = let none : ⊥ = cc in absurd none
passes passed (I64 ∷ params) (value.I64 n ∷ values) below typed =
    let p = passes (value.I64 n ∷ passed) params values below cc in
    record { call = p.call; taken = p.taken; passed_types = p.passed_types; below_types = p.below_types }

-- The value with a number has the type with it.
pub value_at : (values : List Value) (x : ℕ) (ty : ValType) → slice_get (types values) x ≡ Some ty →
    (v : Value) × (slice_get values x ≡ Some v) × (type_of v ≡ ty)
value_at [] x ty there = let none : ⊥ = cc in absurd none
value_at (v ∷ values) zero ty there = (v, refl, cc)
value_at (v ∷ values) (suc x) ty there = value_at values x ty there

-- So there is one.
pub within_values : (values : List Value) (x : ℕ) (ty : ValType) → slice_get (types values) x ≡ Some ty → x < length values
within_values [] x ty there = let none : ⊥ = cc in absurd none
within_values (v ∷ values) zero ty there = omega arith
within_values (v ∷ values) (suc x) ty there = let later = within_values values x ty there in omega (arith, later)

-- A value of that type in its place changes no types.
pub types-set : (values : List Value) (x : ℕ) (v : Value) → slice_get (types values) x ≡ Some (type_of v) →
    types (slice_set values x v) ≡ types values
types-set [] x v there = let none : ⊥ = cc in absurd none
types-set (w ∷ values) zero v there = let same : type_of v ≡ type_of w = cc in ap (λ t. t ∷ types values) same
types-set (w ∷ values) (suc x) v there = ap (λ ts. type_of w ∷ ts) (types-set values x v there)

-- What is taken from the top has the types of the top.
pub types-take : (tops below : List ValType) (values : List Value) (n : ℕ) → n ≡ length tops → types values ≡ tops ++ below →
    types (take n values) ≡ tops
types-take [] below values zero same typed = refl
types-take [] below values (suc n) same typed = absurd (omega (arith, same))
types-take (t ∷ tops) below values zero same typed = absurd (omega (arith, same))
types-take (t ∷ tops) below [] (suc n) same typed = let none : ⊥ = cc in absurd none
types-take (t ∷ tops) below (v ∷ values) (suc n) same typed =
    let first : type_of v ≡ t = cc in
    let others : types values ≡ tops ++ below = cc in
    let fewer : n ≡ length tops = omega (arith, same) in
    ap (λ x. x ∷ types (take n values)) first ∙ ap (λ ts. t ∷ ts) (types-take tops below values n fewer others)

-- There are as many values as types on the top.
pub types-enough : (tops below : List ValType) (values : List Value) → types values ≡ tops ++ below → length tops ≤ length values
types-enough [] below values typed = omega arith
types-enough (t ∷ tops) below [] typed = let none : ⊥ = cc in absurd none
types-enough (t ∷ tops) below (v ∷ values) typed =
    let others : types values ≡ tops ++ below = cc in let fewer = types-enough tops below values others in omega (arith, fewer)

-- Where the stack has a type on top, a value of that type is there.
pub popped-there : {A : Type 0} (P : A → Type 0) (ty : ValType) (values : List Value) (below : List ValType) (other : A)
    (go : ℕ → List Value → A) → types values ≡ ty ∷ below →
    ((n : ℕ) (rest : List Value) → types rest ≡ below → P (go n rest)) → P (popped ty values other go)
popped-there P ty [] below other go typed there = let none : ⊥ = cc in absurd none
popped-there P I32 (value.I32 n ∷ values) below other go typed there = there n values cc
popped-there P I32 (value.I64 n ∷ values) below other go typed there = let none : ⊥ = cc in absurd none
popped-there P I64 (value.I32 n ∷ values) below other go typed there = let none : ⊥ = cc in absurd none
popped-there P I64 (value.I64 n ∷ values) below other go typed there = there n values cc

-- The same of a value of any type.
pub top-there : {A : Type 0} (P : A → Type 0) (ty : ValType) (values : List Value) (below : List ValType) (other : A)
    (go : Value → List Value → A) → types values ≡ ty ∷ below →
    ((v : Value) (rest : List Value) → type_of v ≡ ty → types rest ≡ below → P (go v rest)) → P (with_top values other go)
top-there P ty [] below other go typed there = let none : ⊥ = cc in absurd none
top-there P ty (v ∷ values) below other go typed there =
    let first : type_of v ≡ ty = cc in
    let others : types values ≡ below = cc in
    there v values first others

-- What is found to be the same is the same.
pub same_types-same : (ts us : List ValType) → same_types ts us ≡ true → ts ≡ us
same_types-same [] [] is = refl
same_types-same [] (I32 ∷ us) is = let none : ⊥ = cc in absurd none
same_types-same [] (I64 ∷ us) is = let none : ⊥ = cc in absurd none
same_types-same (I32 ∷ ts) [] is = let none : ⊥ = cc in absurd none
same_types-same (I64 ∷ ts) [] is = let none : ⊥ = cc in absurd none
same_types-same (I32 ∷ ts) (I32 ∷ us) is = ap (λ ts. I32 ∷ ts) (same_types-same ts us is)
same_types-same (I64 ∷ ts) (I64 ∷ us) is = ap (λ ts. I64 ∷ ts) (same_types-same ts us is)
same_types-same (I32 ∷ ts) (I64 ∷ us) is = let none : ⊥ = cc in absurd none
same_types-same (I64 ∷ ts) (I32 ∷ us) is = let none : ⊥ = cc in absurd none

-- What holds together holds each.
both : (a b : Bool) → (a && b) ≡ true → (a ≡ true) × (b ≡ true)
both true b is = (refl, is)
both false b is = let none : ⊥ = cc in absurd none

-- The same of function types.
pub same_func_type-same : (ty other : FuncType) → same_func_type ty other ≡ true → ty ≡ other
same_func_type-same ty other is =
    let (params, results) = both (same_types ty.params other.params) (same_types ty.results other.results) is in
    let same_params = same_types-same ty.params other.params params in
    let same_results = same_types-same ty.results other.results results in
    λ i. record { params = same_params i; results = same_results i }
