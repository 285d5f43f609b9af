-- Numbers in code, and as keys in strings: twice as many bytes as they are spelled with are enough.
use Rattle.std.proofs.Common.{◌≡◌, ℕ, suc, ◌+◌, ◌*◌, ◌-◌, ◌^◌, ◌<◌, ◌≤◌, Bool, true, false, ◌&&◌, ◌||◌, List, [], ◌∷◌, length, drop, Option, Some, None, ◌⊎◌, inl, inr, refl, subst, length-drop, arith}
use Rattle.std.specs.Prelude.{if◌then◌else◌, codes, fold, ◌==◌, not}
use Rattle.std.proofs.lemmas.Bool.Decides.{Decides-ltb, nat_tests}
use Rattle.std.specs.Fmt.{decimal}
use Rattle.std.proofs.lemmas.Fmt.{length-decimal-le}
use Rattle.hph_ast.specs.declared.token.Kind.{Kind}
use Rattle.hph_ast.specs.declared.token.Kind.TheVariants as k
use Rattle.hph_ast.specs.Bytes.{is_digit, is_letter, is_name_byte, digit_value, begins, begins_word, begins_with, front}
use Rattle.hph_ast.specs.Strings.{value_of}
use Rattle.hph_ast.specs.Numbers.{Digits, IsNumber, Numeral, numeral, numeral_length, is_run_byte, is_hex_run_byte}
use Rattle.hph_ast.specs.Lexical.{key_of, is_plain_number}
use Rattle.hph_size.proofs.Numerals.{one_more, last, some_digit, narrow, broad}
use Rattle.hph_size.proofs.Weights.{weight}

pub front_within : (p : ℕ → Bool) (bs : List ℕ) → length (front p bs) ≤ length bs
front_within p [] = omega arith
front_within p (b ∷ bs) = elim (p b) as (λ t. length (if t then b ∷ front p bs else []) ≤ suc (length bs)) [
  | true ↦ omega (arith, front_within p bs)
  | false ↦ omega arith
]

-- ---- numbers in code

-- the digits are among the bytes, and their base is small, or a prefix stands before them
record Written (bs : List ℕ) (n : Numeral) : Type 0 where
  digits_within : length n.run ≤ length bs - n.prefix
  small : (n.base ≤ 10) ⊎ ((n.base ≤ 100) × (0 < n.prefix))

if_written : {bs : List ℕ} (b : Bool) {x y : Numeral} → Written bs x → Written bs y → Written bs (if b then x else y)
if_written true one other = one
if_written false one other = other

prefixed : (p : ℕ → Bool) (base : ℕ) (bs : List ℕ) → base ≤ 16 → Written bs (record { base = base; prefix = 2; run = front p (drop 2 bs) })
prefixed p base bs small = record {
  digits_within = omega (arith, front_within p (drop 2 bs), length-drop 2 bs);
  small = inr (omega arith, omega arith);
}

bare : (p : ℕ → Bool) (base : ℕ) (bs : List ℕ) → base ≤ 10 → Written bs (record { base = base; prefix = 0; run = front p bs })
bare p base bs small = record { digits_within = omega (arith, front_within p bs); small = inl small }

written : (bs : List ℕ) → Written bs (numeral bs)
written bs =
    if_written (begins_word (codes "0x") bs) (prefixed is_hex_run_byte 16 bs (omega arith))
    (if_written (begins_word (codes "0b") bs) (prefixed is_run_byte 2 bs (omega arith))
    (if_written (begins_word (codes "0o") bs) (prefixed is_run_byte 8 bs (omega arith))
    (if_written (begins (codes "0") bs && begins_with is_run_byte (drop 1 bs)) (bare is_run_byte 8 bs (omega arith)) (bare is_run_byte 10 bs (omega arith)))))

number_of : {bs : List ℕ} {v : ℕ} (n : Numeral) → Written bs n → Digits n.base 0 n.run v → v < 2 ^ 63 →
    (suc (length (decimal v)) ≤ 2 * (n.prefix + length n.run)) × (n.prefix + length n.run ≤ length bs)
number_of n is ds fits =
    let some = some_digit ds in
    let inside = is.digits_within in
    elim is.small [
      | inl small ↦ let few = narrow small ds fits in (omega arith, omega arith)
      | inr small ↦ let few = broad small.0 ds fits in (omega arith, omega arith)
    ]

pub number_fits : (bs : List ℕ) {v : ℕ} → IsNumber bs v → v < 2 ^ 63 →
    (suc (length (decimal v)) ≤ 2 * numeral_length bs) × (numeral_length bs ≤ length bs)
number_fits bs is fits = number_of (numeral bs) (written bs) is fits

-- ---- keys

-- decimal digits spell less than a power of ten
digit_below : (b : ℕ) → is_digit b ≡ true → digit_value b < 10
digit_below b is = grind (arith, nat_tests)

digits_below : (n : ℕ) (bs : List ℕ) → fold (λ n d. 10 * n + digit_value d) n (front is_digit bs) < suc n * 10 ^ length (front is_digit bs)
digits_below n [] = last 10 n
digits_below n (b ∷ bs) =
    elim (is_digit b) as (λ t. is_digit b ≡ t → fold (λ n d. 10 * n + digit_value d) n (if t then b ∷ front is_digit bs else []) <
    suc n * 10 ^ length (if t then b ∷ front is_digit bs else [])) [
      | true ↦ λ is. one_more 10 n (digit_value b) _ (length (front is_digit bs)) (digit_below b is) (digits_below (10 * n + digit_value b) bs)
      | false ↦ λ is. last 10 n
    ] refl

data Keyed : Option (Kind × ℕ) → Type 0 where
  none : Keyed None
  some : {found : Kind × ℕ} → weight found.0 ≤ 2 * found.1 → Keyed (Some found)

both_true : (x y : Bool) → (x && y) ≡ true → (x ≡ true) × (y ≡ true)
both_true true y h = (refl, h)
both_true false y h = absurd (cc)

digit_first : (bs : List ℕ) → begins_with is_digit bs ≡ true → 0 < length (front is_digit bs)
digit_first [] is = absurd (cc)
digit_first (b ∷ bs) is = elim (is_digit b) as (λ t. t ≡ true → 0 < length (if t then b ∷ front is_digit bs else [])) [
  | true ↦ λ _. omega arith
  | false ↦ λ no. absurd (cc)
] is

below_limit : (ds : List ℕ) → is_plain_number ds ≡ true → value_of 10 ds < 2 ^ 63
below_limit ds is = (Decides-ltb (value_of 10 ds) (2 ^ 63)).0 (both_true (length ds == 1 || not (begins (codes "0") ds)) _ is).1

plain_number : (bs : List ℕ) → (begins_with is_digit bs && is_plain_number (front is_digit bs)) ≡ true →
    weight (k.Int (value_of 10 (front is_digit bs))) ≤ 2 * length (front is_digit bs)
plain_number bs is =
    let both = both_true (begins_with is_digit bs) (is_plain_number (front is_digit bs)) is in
    let pos = digit_first bs both.0 in
    let fits = below_limit (front is_digit bs) both.1 in
    let power = digits_below 0 bs in
    let few = length-decimal-le (length (front is_digit bs)) (value_of 10 (front is_digit bs)) pos (omega arith) (omega arith) in
    omega arith

if_keyed : (b : Bool) {x y : Option (Kind × ℕ)} → (b ≡ true → Keyed x) → Keyed y → Keyed (if b then x else y)
if_keyed true one other = one refl
if_keyed false one other = other

named : (name : List ℕ) (n : ℕ) → Keyed (Some (k.Name name, n))
named name n = some (omega arith)

of_variable : (name : List ℕ) (n : ℕ) → Keyed (Some (k.Variable name, n))
of_variable name n = some (omega arith)

keyed : (bs : List ℕ) → Keyed (key_of bs)
keyed bs =
    if_keyed (begins_with is_letter bs) (λ _. named (front is_name_byte bs) (length (front is_name_byte bs)))
    (if_keyed (begins (codes "$") bs && begins_with is_letter (drop 1 bs))
    (λ _. of_variable (front is_name_byte (drop 1 bs)) (suc (length (front is_name_byte (drop 1 bs)))))
    (if_keyed (begins_with is_digit bs && is_plain_number (front is_digit bs)) (λ is. some (plain_number bs is)) none))

key_in : {found : Kind × ℕ} → Keyed (Some found) → weight found.0 ≤ 2 * found.1
key_in (some fits) = fits

pub key_fits : (bs : List ℕ) {found : Kind × ℕ} → key_of bs ≡ Some found → weight found.0 ≤ 2 * found.1
key_fits bs {found} is = key_in (subst Keyed is (keyed bs))
