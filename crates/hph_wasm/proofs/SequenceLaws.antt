-- Sequences of instructions, and what is taken from them.
use Rattle.std.proofs.Common.{◌≡◌, ◌≤◌, ℕ, zero, suc, List, [], ◌∷◌, ◌++◌, length, take, drop, refl, sym, ap, subst, ◌∙◌, arith, Option, Some, None}
use mathlib.Core.List.{reverse_aux}
use Rattle.hph_wasm.specs.declared.instr.Instr.{Instr}
use Rattle.hph_wasm.specs.declared.types.ValType.{ValType}
use Rattle.hph_wasm.specs.declared.types.ValType.TheVariants.{I32, I64}
use Rattle.hph_wasm.specs.declared.value.Value.{Value}
use Rattle.hph_wasm.specs.declared.value.Value.TheVariants as value
use Rattle.hph_wasm.specs.Values.{value_of, types}
use Rattle.hph_wasm.specs.Reduction.{Arguments, arguments_onto, results}
use Rattle.hph_wasm.specs.Sequences.{Administrative, Plain, Constant, Sequence, Empty, Then, join, single, plain, constants, stack, on_stack}

-- Nothing behind changes nothing.
pub join-empty : (a : Sequence) → join a Empty ≡ a
join-empty Empty = refl
join-empty (Then first a) = ap (Then first) (join-empty a)

-- Sequences are joined in either order.
pub join-join : (a b c : Sequence) → join (join a b) c ≡ join a (join b c)
join-join Empty b c = refl
join-join (Then first a) b c = ap (Then first) (join-join a b c)

-- The values on top stand behind those below.
pub stack-append : (top below : List Value) → stack (top ++ below) ≡ join (stack below) (stack top)
stack-append [] below = sym (join-empty (stack below))
stack-append (v ∷ top) below =
    ap (λ a. join a (single (Constant v))) (stack-append top below) ∙ join-join (stack below) (stack top) (single (Constant v))

-- Values put onto a stack stand behind those below.
pub onto : (top below : List Value) (rest : Sequence) → join (stack below) (join (stack top) rest) ≡ join (stack (top ++ below)) rest
onto top below rest = sym (join-join (stack below) (stack top) rest) ∙ ap (λ a. join a rest) (sym (stack-append top below))

-- A program's instructions behind others.
pub plain-append : (code rest : List Instr) → join (plain code) (plain rest) ≡ plain (code ++ rest)
plain-append [] rest = refl
plain-append (i ∷ code) rest = ap (Then (Plain i)) (plain-append code rest)

-- An instruction behind values takes those on top.
pub on_top : (taken below : List Value) (i : Administrative) (rest : Sequence) →
    join (stack below) (join (on_stack taken i) rest) ≡ join (stack (taken ++ below)) (Then i rest)
on_top taken below i rest =
    ap (join (stack below)) (join-join (stack taken) (single i) rest) ∙ onto taken below (Then i rest)

-- What is taken from a list, and what is left.
pub take-drop : {X : Type 0} (n : ℕ) (xs : List X) → take n xs ++ drop n xs ≡ xs
take-drop zero xs = refl
take-drop (suc n) [] = refl
take-drop (suc n) (x ∷ xs) = ap (λ l. x ∷ l) (take-drop n xs)

-- As many are taken as are asked for, if there are so many.
pub take-length : {X : Type 0} (n : ℕ) (xs : List X) → n ≤ length xs → n ≡ length (take n xs)
take-length zero xs enough = refl
take-length (suc n) [] enough = absurd (omega (arith, enough))
take-length (suc n) (x ∷ xs) enough = ap suc (take-length n xs (omega (arith, enough)))

-- The arguments of a call, and those taken before, stand behind the values below.
pub arguments_onto-join : (passed : List Value) (params : List ValType) (values : List Value) (call : Arguments) (rest : Sequence) →
    arguments_onto passed params values ≡ Some call →
    join (stack values) (join (constants passed) rest) ≡ join (stack call.below) (join (constants call.passed) rest)
arguments_onto-join passed [] values call rest taken =
    let same : record { passed = passed; below = values } ≡ call = cc in
    ap (λ (call : Arguments). join (stack call.below) (join (constants call.passed) rest)) same
arguments_onto-join passed (I32 ∷ params) [] call rest taken = let none : ⊥ = cc in absurd none
arguments_onto-join passed (I64 ∷ params) [] call rest taken = let none : ⊥ = cc in absurd none
arguments_onto-join passed (I32 ∷ params) (value.I64 n ∷ values) call rest taken = let none : ⊥ = cc in absurd none
arguments_onto-join passed (I64 ∷ params) (value.I32 n ∷ values) call rest taken = let none : ⊥ = cc in absurd none
arguments_onto-join passed (I32 ∷ params) (value.I32 n ∷ values) call rest taken =
    join-join (stack values) (single (Constant (value.I32 n))) (join (constants passed) rest) ∙
    arguments_onto-join (value.I32 n ∷ passed) params values call rest taken
arguments_onto-join passed (I64 ∷ params) (value.I64 n ∷ values) call rest taken =
    join-join (stack values) (single (Constant (value.I64 n))) (join (constants passed) rest) ∙
    arguments_onto-join (value.I64 n ∷ passed) params values call rest taken

-- A call passes values of the types that it takes, the last one first.
pub arguments_onto-types : (passed : List Value) (params : List ValType) (values : List Value) (call : Arguments) →
    arguments_onto passed params values ≡ Some call → types call.passed ≡ reverse_aux params (types passed)
arguments_onto-types passed [] values call taken =
    let same : record { passed = passed; below = values } ≡ call = cc in
    ap (λ (call : Arguments). types call.passed) (sym same)
arguments_onto-types passed (I32 ∷ params) [] call taken = let none : ⊥ = cc in absurd none
arguments_onto-types passed (I64 ∷ params) [] call taken = let none : ⊥ = cc in absurd none
arguments_onto-types passed (I32 ∷ params) (value.I64 n ∷ values) call taken = let none : ⊥ = cc in absurd none
arguments_onto-types passed (I64 ∷ params) (value.I32 n ∷ values) call taken = let none : ⊥ = cc in absurd none
arguments_onto-types passed (I32 ∷ params) (value.I32 n ∷ values) call taken = arguments_onto-types (value.I32 n ∷ passed) params values call taken
arguments_onto-types passed (I64 ∷ params) (value.I64 n ∷ values) call taken = arguments_onto-types (value.I64 n ∷ passed) params values call taken

-- A host's function has at most one result, so their order doesn't matter.
pub constants-results : (types : List ValType) (result : Option ℕ) (values : List Value) → results types result ≡ Some values →
    constants values ≡ stack values
constants-results [] None values given = let same : [] ≡ values = cc in subst (λ values. constants values ≡ stack values) same refl
constants-results [] (Some n) values given = let none : ⊥ = cc in absurd none
constants-results (ty ∷ []) None values given = let none : ⊥ = cc in absurd none
constants-results (ty ∷ []) (Some n) values given =
    let same : value_of ty n ∷ [] ≡ values = cc in subst (λ values. constants values ≡ stack values) same refl
constants-results (ty ∷ other ∷ types) None values given = let none : ⊥ = cc in absurd none
constants-results (ty ∷ other ∷ types) (Some n) values given = let none : ⊥ = cc in absurd none
