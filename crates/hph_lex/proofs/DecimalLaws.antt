-- The value of decimal digits, digit by digit.
use Rattle.std.proofs.Common.{◌≡◌, ℕ, ◌+◌, ◌-◌, ◌*◌, ◌<◌, ◌≤◌, ◌^◌, Bool, true, false, ◌&&◌, List, [], ◌∷◌, length, drop, get_or, fold}
use Rattle.std.proofs.Common.{refl, ap, sym, ◌∙◌, arith}
use Rattle.std.specs.List.{list_all}
use Rattle.std.specs.Prelude.{nat_lt, nat_le, if◌then◌else◌}
use Rattle.std.proofs.lemmas.List.{at_drop_more}
use Rattle.std.proofs.lemmas.Bool.Decides.{nat_tests}
use Rattle.hph_ast.specs.Bytes.{is_digit, digit_value, lower, front}
use Rattle.hph_ast.specs.Strings.{value_of}

-- a value with one more digit
abbrev pub with_digit : ℕ → ℕ → ℕ
with_digit n d = 10 * n + digit_value d

both : (s t : Bool) → (s && t) ≡ true → (s ≡ true) × (t ≡ true)
both true true e = (refl, refl)
both true false e = absurd (cc)
both false t e = absurd (cc)

-- what is known of the digit at a place, and of those behind it
pub record Turn (digits : List ℕ) (i v d : ℕ) : Type 0 where
  pub low : 48 ≤ d
  pub high : d ≤ 57
  pub value : fold with_digit v (drop i digits) ≡ fold with_digit (10 * v + (d - 48)) (drop (i + 1) digits)
  pub rest : list_all is_digit (drop (i + 1) digits) ≡ true

digit_bounds : (d : ℕ) → is_digit d ≡ true → (48 ≤ d) × (d ≤ 57)
digit_bounds d is = (grind (arith, nat_tests, is), grind (arith, nat_tests, is))

digit_is : (d : ℕ) → is_digit d ≡ true → digit_value d ≡ d - 48
digit_is d is = ap (λ t. if t then d - 48 else (if nat_le 97 (lower d) && nat_le (lower d) 102 then lower d - 87 else 16)) is

pub turn : (digits : List ℕ) (i v : ℕ) → i < length digits → list_all is_digit (drop i digits) ≡ true →
    Turn digits i v (get_or digits i 0)
turn digits i v within all =
    let d : ℕ = get_or digits i 0 in
    let all_here : (is_digit d && list_all is_digit (drop (i + 1) digits)) ≡ true = sym (at_drop_more
    (list_all is_digit) digits i 0 within) ∙ all in
    let split = both (is_digit d) (list_all is_digit (drop (i + 1) digits)) all_here in
    record {
      low = (digit_bounds d split.0).0;
      high = (digit_bounds d split.0).1;
      value = at_drop_more (fold with_digit v) digits i 0 within
          ∙ ap (λ n. fold with_digit (10 * v + n) (drop (i + 1) digits)) (digit_is d split.0);
      rest = split.1;
    }

-- a value grows with its digits
pub grows : (v : ℕ) (digits : List ℕ) → v ≤ fold with_digit v digits
grows v [] = omega arith
grows v (d ∷ digits) = let more = grows (with_digit v d) digits in omega (arith, more)

-- no further digits make it small again
pub too_large : (v : ℕ) (digits rest : List ℕ) → 2 ^ 63 ≤ v → fold with_digit v rest ≡ value_of 10 digits →
    nat_lt (value_of 10 digits) (2 ^ 63) ≡ false
too_large v digits rest large is = let more = grows v rest in grind (arith, nat_tests, more, large, is)

-- the digits at the front are digits
pub all_front : (p : ℕ → Bool) (bs : List ℕ) → list_all p (front p bs) ≡ true
all_front p [] = refl
all_front p (b ∷ bs) =
    elim (p b) as (λ t. p b ≡ t → list_all p (if t then b ∷ front p bs else []) ≡ true) [
      | true ↦ λ is. ap (λ t. t && list_all p (front p bs)) is ∙ all_front p bs
      | false ↦ λ is. refl
    ] refl
