-- How long parts, vectors and their bytes are.
use Rattle.std.proofs.Common.{◌<◌, ◌≤◌, ◌^◌, ℕ, List, [], ◌∷◌, ◌++◌, length, flat_map, arith, length-append}
use Rattle.std.specs.Prelude.{Result, Ok, Err, OnOk}
use Rattle.hph_wasm.specs.Spelling.{vector_bytes, value_type_bytes, func_type_bytes}
use Rattle.hph_wasm.specs.Leb128.{u32_bytes}
use Rattle.hph_wasm.specs.declared.types.FuncType.{FuncType}

-- no part is longer than the whole
pub front_short : (front rest : List ℕ) → length (front ++ rest) < 2 ^ 32 → length front < 2 ^ 32
front_short front rest short = omega (arith, length-append front rest)

-- nor is the rest
pub rest_short : (front rest : List ℕ) → length (front ++ rest) < 2 ^ 32 → length rest < 2 ^ 32
rest_short front rest short = omega (arith, length-append front rest)

-- there are at least as many bytes as things, where each thing has a byte
pub length-le-flat_map : {X : Type 0} (f : X → List ℕ) (xs : List X) → ((x : X) → 0 < length (f x)) → length xs ≤ length (flat_map f xs)
length-le-flat_map f [] some = omega arith
length-le-flat_map f (x ∷ xs) some = let rest : length xs ≤ length (flat_map f xs) = length-le-flat_map f xs some in let one : 0 < length (f x) = some x in omega (arith, length-append (f x) (flat_map f xs))

-- a vector has a byte for each thing
pub length-le-vector_bytes : {X : Type 0} (f : X → List ℕ) (xs : List X) → ((x : X) → 0 < length (f x)) → length xs ≤ length (vector_bytes f xs)
length-le-vector_bytes f xs some = omega (arith, length-le-flat_map f xs some, length-append (u32_bytes (length xs)) (flat_map f xs))

-- a short function type has few parameters
pub params_few : (ty : FuncType) → length (func_type_bytes ty) < 2 ^ 32 → length ty.params < 2 ^ 32
params_few ty short = omega (arith, length-le-vector_bytes value_type_bytes ty.params (λ t. omega arith), length-append (vector_bytes value_type_bytes ty.params) (vector_bytes value_type_bytes ty.results))

-- and few results
pub results_few : (ty : FuncType) → length (func_type_bytes ty) < 2 ^ 32 → length ty.results < 2 ^ 32
results_few ty short = omega (arith, length-le-vector_bytes value_type_bytes ty.results (λ t. omega arith), length-append (vector_bytes value_type_bytes ty.params) (vector_bytes value_type_bytes ty.results))

-- what holds by itself and what holds where there was no error hold there together
pub OnOk-with : {T E A : Type 0} (B : Type 0) (r : Result T E) → A → OnOk r B → OnOk r (A × B)
OnOk-with B (Ok v) first second = (first, second)
OnOk-with B (Err e) first second = tt
