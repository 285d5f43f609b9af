-- Rows of values: literals, the operand stack, operators, tests, steps of paths, elements of arrays. What each does is the rule of the
-- language on the values that it takes.
use Rattle.std.specs.Prelude.{ℕ, zero, suc, Bool, true, false, List, Result}
use Rattle.hph_wasm.specs.Integers.{signed, unsigned}
use Rattle.hph_php.specs.declared.fatal.Fatal.{Fatal}
use Rattle.hph_php.specs.Codes.{binary_with, unary_with}
use Rattle.hph_php.specs.Values.{Value, Null, Boolean, Int, Str, Arr, array_of, array_value, empty_array}
use Rattle.hph_php.specs.Conversions.{map_ok, to_bool}
use Rattle.hph_php.specs.Operators.{binary_of, unary_of}
use Rattle.hph_php.specs.Arrays.{Array, append}
use Rattle.hph_php.specs.Paths.{by_key, at_end, by_property}
use Rattle.hph_php.specs.Operations.{with_key}
use Rattle.hph_effects.specs.Hosts.{a_step, HostState, Replied, misuse, done, gives, gives_truth, push, push_item, settled, found, popped, popped_item, popped_text}

-- ---- literals

abbrev pub null : HostState → Replied
null h = done (push Null h)

-- each number but 0 is true
abbrev pub is_true : ℕ → Bool
is_true zero = false
is_true (suc n) = true

abbrev pub bool : ℕ → HostState → Replied
bool b h = done (push (Boolean (is_true b)) h)

abbrev pub int : ℕ → HostState → Replied
int i h = done (push (Int (signed 64 i)) h)

abbrev pub str : List ℕ → HostState → Replied
str bytes h = done (push (Str bytes) h)

abbrev pub arr : HostState → Replied
arr h = done (push (array_value empty_array) h)

-- ---- the top of the stack

abbrev pub drop : HostState → Replied
drop h = popped_item h (λ item h. done h)

abbrev pub dup : HostState → Replied
dup h = popped_item h (λ item h. done (push_item item (push_item item h)))

-- ---- operators and tests

abbrev pub op2 : ℕ → HostState → Replied
op2 code h = found (binary_with code) h (λ op. popped h (λ y h. popped h (λ x h. settled (binary_of op x y) h)))

abbrev pub op1 : ℕ → HostState → Replied
op1 code h = found (unary_with code) h (λ op. popped h (λ x h. settled (unary_of op x) h))

abbrev pub truth : HostState → Replied
truth h = popped h (λ v h. gives_truth (to_bool v) h)

abbrev pub an_int : Value → HostState → Replied
an_int (Int z) h = gives (unsigned 64 z) h
an_int _ h = misuse h

abbrev pub pop_int : HostState → Replied
pop_int h = popped h an_int

abbrev pub a_bool : Value → HostState → Replied
a_bool (Boolean b) h = gives_truth b h
a_bool _ h = misuse h

abbrev pub pop_bool : HostState → Replied
pop_bool h = popped h a_bool

-- ---- steps

abbrev pub step_key : HostState → Replied
step_key h = popped h (λ v h. done (push_item (a_step (by_key v)) h))

abbrev pub step_append : HostState → Replied
step_append h = done (push_item (a_step at_end) h)

abbrev pub step_prop : HostState → Replied
step_prop h = popped_text h (λ name h. done (push_item (a_step (by_property name)) h))

-- ---- elements

-- the array with an element more
abbrev pub with_element : (Array Value → Result (Array Value) Fatal) → Value → HostState → Replied
with_element go (Arr pairs next_key) h = settled (map_ok array_value (go (array_of pairs next_key))) h
with_element go _ h = misuse h

abbrev pub elem : HostState → Replied
elem h = popped h (λ v h. popped h (with_element (λ a. append a v)))

abbrev pub elem_key : HostState → Replied
elem_key h = popped h (λ v h. popped h (λ k h. popped h (with_element (with_key k v))))
