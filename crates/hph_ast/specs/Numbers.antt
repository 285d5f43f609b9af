-- Whole numbers, and what begins like a float: PHP manual, Integers and Floating point numbers. That a number that is
-- no number at all is a fault of its own, and is read as far as digits go, is this project's own.
use Rattle.std.specs.Prelude.{◌<◌, ℕ, ◌+◌, ◌*◌, Bool, false, ◌&&◌, ◌||◌, List, [], ◌∷◌, length, drop, if◌then◌else◌, ◌==◌, nat_lt, codes}
use Rattle.hph_ast.specs.Bytes.{is_digit, digit_value, begins, begins_word, begins_with, front}

-- digits with single `_` between them, of a base, behind the value of those before: the value of all
pub data Digits (base : ℕ) : ℕ → List ℕ → ℕ → Type 0 where
  digit : {n d : ℕ} → digit_value d < base → Digits base n (d ∷ []) (base * n + digit_value d)
  digits : {n d v : ℕ} {ds : List ℕ} → digit_value d < base → Digits base (base * n + digit_value d) ds v → Digits base n (d ∷ ds) v
  separated : {n d v : ℕ} {ds : List ℕ} → digit_value d < base → Digits base (base * n + digit_value d) ds v → Digits base n (d ∷ 95 ∷ ds) v

-- what a number may go on with, before its digits are looked at
abbrev pub is_run_byte : ℕ → Bool
is_run_byte b = is_digit b || b == 95

abbrev pub is_hex_run_byte : ℕ → Bool
is_hex_run_byte b = nat_lt (digit_value b) 16 || b == 95

-- how a number is written: its base, how many bytes stand before its digits, and its digits
pub record Numeral : Type 0 where
  pub base : ℕ
  pub prefix : ℕ
  pub run : List ℕ

-- `0x`, `0b` and `0o` in either case, a leading `0` before more digits, and all other numbers
abbrev pub numeral : List ℕ → Numeral
numeral bs =
    if begins_word (codes "0x") bs then record { base = 16; prefix = 2; run = front is_hex_run_byte (drop 2 bs) }
    else (if begins_word (codes "0b") bs then record { base = 2; prefix = 2; run = front is_run_byte (drop 2 bs) }
    else (if begins_word (codes "0o") bs then record { base = 8; prefix = 2; run = front is_run_byte (drop 2 bs) }
    else (if begins (codes "0") bs && begins_with is_run_byte (drop 1 bs) then record { base = 8; prefix = 0; run = front is_run_byte bs }
    else record { base = 10; prefix = 0; run = front is_run_byte bs })))

abbrev pub numeral_length : List ℕ → ℕ
numeral_length bs = (numeral bs).prefix + length (numeral bs).run

-- the bytes behind the longest decimal digits with single `_` between them
abbrev pub behind_digits : List ℕ → List ℕ
behind_digits [] = []
behind_digits (d ∷ []) = if is_digit d then [] else d ∷ []
behind_digits (d ∷ e ∷ ds) = if is_digit d || (d == 95 && is_digit e) then behind_digits (e ∷ ds) else d ∷ e ∷ ds

abbrev pub begins_signed_digit : List ℕ → Bool
begins_signed_digit [] = false
begins_signed_digit (b ∷ bs) = is_digit b || ((b == 43 || b == 45) && begins_with is_digit bs)

-- `e`, a sign or none, and a digit
abbrev pub begins_exponent : List ℕ → Bool
begins_exponent bs = begins_word (codes "e") bs && begins_signed_digit (drop 1 bs)

-- at a digit, or at a dot before one: the number has a fraction or an exponent
abbrev pub is_float : List ℕ → Bool
is_float bs = begins (codes ".") (behind_digits bs) || begins_exponent (behind_digits bs)

-- the value of the number that begins here
abbrev pub IsNumber : List ℕ → ℕ → Type 0
IsNumber bs v = Digits (numeral bs).base 0 (numeral bs).run v
