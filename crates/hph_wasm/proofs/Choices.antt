-- What holds of a choice by an option, a test, a number or a stack.
use Rattle.std.proofs.Common.{◌≡◌, ℕ, zero, suc, List, [], ◌∷◌, Option, Some, None, Bool, true, false, cond, refl, sym, subst}
use Rattle.std.specs.Prelude.{IsSome, option_and_then}
use Rattle.hph_wasm.specs.declared.types.ValType.{ValType}
use Rattle.hph_wasm.specs.declared.types.ValType.TheVariants.{I32, I64}
use Rattle.hph_wasm.specs.declared.value.Value.{Value}
use Rattle.hph_wasm.specs.declared.value.Value.TheVariants as value
use Rattle.hph_wasm.specs.Values.{value_of}
use Rattle.hph_wasm.specs.Choice.{if_some, if_zero, popped, with_top}

-- A choice by an option, with what the option is.
pub if_some-cases : {A B : Type 0} (P : B → Type 0) (o : Option A) (other : B) (go : A → B) →
    P other → ((x : A) → o ≡ Some x → P (go x)) → P (if_some o other go)
if_some-cases P None other go without with_value = without
if_some-cases P (Some x) other go without with_value = with_value x refl

-- A choice by a test, with what the test says.
pub cond-cases : {B : Type 0} (P : B → Type 0) (b : Bool) (x y : B) → (b ≡ true → P x) → P y → P (cond b x y)
cond-cases P true x y on_true on_false = on_true refl
cond-cases P false x y on_true on_false = on_false

-- The same, with what is known where there is nothing.
pub if_some-either : {A B : Type 0} (P : B → Type 0) (o : Option A) (other : B) (go : A → B) →
    (o ≡ None → P other) → ((x : A) → o ≡ Some x → P (go x)) → P (if_some o other go)
if_some-either P None other go without with_value = without refl
if_some-either P (Some x) other go without with_value = with_value x refl

-- A choice by a test, with what either answer says.
pub cond-either : {B : Type 0} (P : B → Type 0) (b : Bool) (x y : B) → (b ≡ true → P x) → (b ≡ false → P y) → P (cond b x y)
cond-either P true x y on_true on_false = on_true refl
cond-either P false x y on_true on_false = on_false refl

-- A choice by a test that is true.
pub cond-true : {B : Type 0} (P : B → Type 0) (b : Bool) (x y : B) → b ≡ true → P x → P (cond b x y)
cond-true P b x y is h = subst (λ b. P (cond b x y)) (sym is) h

-- A choice by whether a number is 0.
pub if_zero-cases : {B : Type 0} (P : B → Type 0) (n : ℕ) (x y : B) → (n ≡ 0 → P x) → ((k : ℕ) → n ≡ suc k → P y) → P (if_zero n x y)
if_zero-cases P zero x y on_zero on_other = on_zero refl
if_zero-cases P (suc k) x y on_zero on_other = on_other k refl

-- What is there holds of a choice by it.
pub if_some-there : {A B : Type 0} (P : B → Type 0) (o : Option A) (x : A) (other : B) (go : A → B) → o ≡ Some x → P (go x) →
    P (if_some o other go)
if_some-there P o x other go there h = subst (λ o. P (if_some o other go)) (sym there) h

-- What is there is some value.
pub some-there : {A : Type 0} (o : Option A) → IsSome o → (x : A) × (o ≡ Some x)
some-there None is = let none : ⊥ = cc in absurd none
some-there (Some x) is = (x, refl)

-- What is looked up by what was looked up, is there by both.
pub and_then-there : {A B : Type 0} (o : Option A) (go : A → Option B) (y : B) → option_and_then go o ≡ Some y →
    (x : A) × (o ≡ Some x) × (go x ≡ Some y)
and_then-there None go y there = let none : ⊥ = cc in absurd none
and_then-there (Some x) go y there = (x, refl, there)

-- A choice by the value on top, with that value.
pub popped-cases : {B : Type 0} (P : B → Type 0) (ty : ValType) (values : List Value) (other : B) (go : ℕ → List Value → B) →
    P other → ((n : ℕ) (below : List Value) → values ≡ value_of ty n ∷ below → P (go n below)) → P (popped ty values other go)
popped-cases P I32 [] other go without on_value = without
popped-cases P I64 [] other go without on_value = without
popped-cases P I32 (value.I32 n ∷ below) other go without on_value = on_value n below refl
popped-cases P I32 (value.I64 n ∷ below) other go without on_value = without
popped-cases P I64 (value.I32 n ∷ below) other go without on_value = without
popped-cases P I64 (value.I64 n ∷ below) other go without on_value = on_value n below refl

-- The same, whichever type that value has.
pub with_top-cases : {B : Type 0} (P : B → Type 0) (values : List Value) (other : B) (go : Value → List Value → B) →
    P other → ((v : Value) (below : List Value) → values ≡ v ∷ below → P (go v below)) → P (with_top values other go)
with_top-cases P [] other go without on_value = without
with_top-cases P (v ∷ below) other go without on_value = on_value v below refl
