-- A sequence has one front: the values before its first instruction that is none, that instruction, and what is behind it.
use Rattle.std.proofs.Common.{◌≡◌, ◌⊎◌, inl, inr, ℕ, suc, List, [], ◌∷◌, ◌++◌, length, reverse, refl, sym, ap, subst, ◌∙◌, arith}
use Rattle.std.proofs.lemmas.List.{reverse-append, reverse-reverse}
use Rattle.hph_wasm.specs.declared.instr.Instr.{Instr}
use Rattle.hph_wasm.specs.declared.value.Value.{Value}
use Rattle.hph_wasm.specs.Sequences.{Administrative, Plain, Constant, Labelled, Sequence, Then, join, single, constants, stack, on_stack, InLabels, here, in_one}
use Rattle.hph_wasm.proofs.SequenceLaws.{on_top}

-- An instruction that is no value.
abbrev pub IsFront : Administrative → Type 0
IsFront (Constant v) = ⊥
IsFront _ = Unit {0}

-- The same front of two sequences.
abbrev SameFront : List Value → List Value → Administrative → Administrative → Sequence → Sequence → Type 0
SameFront values others x y rest behind = (values ≡ others) × (x ≡ y) × (rest ≡ behind)

-- With the first value first, one value at a time.
constants_front : (values others : List Value) (x y : Administrative) (rest behind : Sequence) → IsFront x → IsFront y →
    join (constants values) (Then x rest) ≡ join (constants others) (Then y behind) → SameFront values others x y rest behind
constants_front [] [] x y rest behind is_x is_y same = let first : x ≡ y = cc in let last : rest ≡ behind = cc in (refl, first, last)
constants_front [] (w ∷ others) x y rest behind is_x is_y same = let none : x ≡ Constant w = cc in absurd (subst IsFront none is_x)
constants_front (v ∷ values) [] x y rest behind is_x is_y same = let none : y ≡ Constant v = cc in absurd (subst IsFront none is_y)
constants_front (v ∷ values) (w ∷ others) x y rest behind is_x is_y same =
    let first : v ≡ w = cc in
    let last : join (constants values) (Then x rest) ≡ join (constants others) (Then y behind) = cc in
    let (those, front, back) = constants_front values others x y rest behind is_x is_y last in
    (ap (λ v. v ∷ values) first ∙ ap (λ l. w ∷ l) those, front, back)

-- Values alone have no front.
constants_no_front : (values others : List Value) (x : Administrative) (rest : Sequence) → IsFront x →
    constants values ≡ join (constants others) (Then x rest) → ⊥
constants_no_front [] [] x rest is_x same = cc
constants_no_front [] (w ∷ others) x rest is_x same = cc
constants_no_front (v ∷ values) [] x rest is_x same = let none : x ≡ Constant v = cc in subst IsFront none is_x
constants_no_front (v ∷ values) (w ∷ others) x rest is_x same =
    let last : constants values ≡ join (constants others) (Then x rest) = cc in constants_no_front values others x rest is_x last

-- A stack is its values with the first one first.
constants-append : (values more : List Value) → constants (values ++ more) ≡ join (constants values) (constants more)
constants-append [] more = refl
constants-append (v ∷ values) more = ap (Then (Constant v)) (constants-append values more)

pub stack-constants : (values : List Value) → stack values ≡ constants (reverse values)
stack-constants [] = refl
stack-constants (v ∷ values) =
    ap (λ a. join a (single (Constant v))) (stack-constants values) ∙ sym (constants-append (reverse values) (v ∷ [])) ∙
    ap constants (sym (reverse-append (v ∷ []) values))

-- The values, the instruction and what is behind it are determined.
pub front-same : (values others : List Value) (x y : Administrative) (rest behind : Sequence) → IsFront x → IsFront y →
    join (stack values) (Then x rest) ≡ join (stack others) (Then y behind) → SameFront values others x y rest behind
front-same values others x y rest behind is_x is_y same =
    let (those, front, back) = constants_front (reverse values) (reverse others) x y rest behind is_x is_y
    (ap (λ a. join a (Then x rest)) (sym (stack-constants values)) ∙ same ∙ ap (λ a. join a (Then y behind)) (stack-constants others)) in
    (sym (reverse-reverse values) ∙ ap reverse those ∙ reverse-reverse others, front, back)

-- Values alone have none.
pub no_front : (values others : List Value) (x : Administrative) (rest : Sequence) → IsFront x →
    stack values ≡ join (stack others) (Then x rest) → ⊥
no_front values others x rest is_x same =
    constants_no_front (reverse values) (reverse others) x rest is_x
    (sym (stack-constants values) ∙ same ∙ ap (λ a. join a (Then x rest)) (stack-constants others))

-- Of equal lengths, what two equal lists begin with is equal.
pub same-top : (a b x y : List Value) → length a ≡ length b → a ++ x ≡ b ++ y → (a ≡ b) × (x ≡ y)
same-top [] [] x y long same = (refl, same)
same-top [] (w ∷ b) x y long same = absurd (omega (arith, long))
same-top (v ∷ a) [] x y long same = absurd (omega (arith, long))
same-top (v ∷ a) (w ∷ b) x y long same =
    let first : v ≡ w = cc in
    let others : a ++ x ≡ b ++ y = cc in
    let (tops, rests) = same-top a b x y (omega (arith, long)) others in
    (ap (λ v. v ∷ a) first ∙ ap (λ l. w ∷ l) tops, rests)

-- What stands in labels, by its front.
pub LabelsSeen : (top : List Value) (i : Instr) (k : ℕ) (body : Sequence) → Type 0
LabelsSeen top i k body =
    ((values : List Value) × (rest : Sequence) × (k ≡ 0) × (body ≡ join (stack (top ++ values)) (Then (Plain i) rest))) ⊎
    ((values : List Value) × (arity : ℕ) × (continuation : List Instr) × (rest : Sequence) × (j : ℕ) × (inner : Sequence) × (k ≡ suc j) ×
    (body ≡ join (stack values) (Then (Labelled arity continuation inner) rest)) × InLabels (on_stack top (Plain i)) j inner)

pub labels_seen : (top : List Value) (i : Instr) (k : ℕ) (body : Sequence) → InLabels (on_stack top (Plain i)) k body → LabelsSeen top i k body
unfolding LabelsSeen
labels_seen top i k body (here values rest) = inl (values, rest, refl, on_top top values (Plain i) rest)
labels_seen top i k body (in_one values arity continuation rest j inner stands) =
    inr (values, arity, continuation, rest, j, inner, refl, refl, stands)
