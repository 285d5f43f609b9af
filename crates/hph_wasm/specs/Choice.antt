-- Choices that rules make by what was looked up, by a number, or by what is on a stack.
use Rattle.std.specs.Prelude.{ℕ, zero, suc, List, [], ◌∷◌, Option, Some, None}
use Rattle.hph_wasm.specs.declared.types.ValType.{ValType}
use Rattle.hph_wasm.specs.declared.types.ValType.TheVariants.{I32, I64}
use Rattle.hph_wasm.specs.declared.value.Value.{Value}
use Rattle.hph_wasm.specs.declared.value.Value.TheVariants as value

-- Goes on with what is there.
abbrev pub if_some : {A B : Type 0} → Option A → B → (A → B) → B
if_some None other go = other
if_some (Some x) other go = go x

-- By whether a number is 0, which stands for false.
abbrev pub if_zero : {A : Type 0} → ℕ → A → A → A
if_zero zero on_zero on_other = on_zero
if_zero (suc n) on_zero on_other = on_other

-- Goes on with the number of the value on top, if that is one of the type, and the values below.
abbrev pub popped : {A : Type 0} → ValType → List Value → A → (ℕ → List Value → A) → A
popped I32 (value.I32 n ∷ values) other go = go n values
popped I64 (value.I64 n ∷ values) other go = go n values
popped _ _ other go = other

-- Goes on with the value on top, whichever it is.
abbrev pub with_top : {A : Type 0} → List Value → A → (Value → List Value → A) → A
with_top [] other go = other
with_top (v ∷ values) other go = go v values
