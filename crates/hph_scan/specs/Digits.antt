-- Digits with single `_` between them, one by one: PHP manual, Integers.
use Rattle.std.specs.Prelude.{◌≡◌, ℕ, min, Bool, false, ◌&&◌, ◌||◌, List, [], ◌∷◌, Option, Some, None, if◌then◌else◌, ◌==◌, nat_lt}
use Rattle.std.specs.Borrow.{Bor}
use Rattle.hph_ast.specs.Bytes.{is_digit, digit_value, begins_with}
use Rattle.hph_ast.specs.Numbers.{Digits}
use Rattle.hph_ast.specs.Numbers as number
use Rattle.hph_scan.specs.declared.numeral.Numeral.{Numeral}
use Rattle.hph_scan.specs.declared.numeral.TheConstants.{LONG_VALUE}

-- what a value of the code says
abbrev pub numeral_told : Numeral → number.Numeral
numeral_told found = record { base = found.base; prefix = found.prefix; run = found.run.now }

-- a digit, and the digits behind it
abbrev pub digit_told : ℕ × Bor (List ℕ) → ℕ × List ℕ
digit_told found = (found.0, found.1.now)

-- what stands behind a `_`, where there is more behind it
abbrev pub behind_separator : List ℕ → List ℕ
behind_separator [] = []
behind_separator (b ∷ []) = b ∷ []
behind_separator (b ∷ c ∷ bs) = if b == 95 then c ∷ bs else b ∷ c ∷ bs

-- the digit at the front, and what stands behind it and a `_` that goes on with more
abbrev pub next_digit : ℕ → List ℕ → Option (ℕ × List ℕ)
next_digit base [] = None
next_digit base (b ∷ bs) = if nat_lt (digit_value b) base then Some (digit_value b, behind_separator bs) else None

-- they are no digits of a base with single `_` between them
abbrev pub HasNoValue : ℕ → List ℕ → Type 0
HasNoValue base run = (value : ℕ) → Digits base 0 run value → ⊥

-- the value of digits, where all values from 2 ^ 63 on are told as that one
pub record HasValue (base : ℕ) (run : List ℕ) (told : ℕ) : Type 0 where
  pub value : ℕ
  pub is : Digits base 0 run value
  pub told_is : told ≡ min value LONG_VALUE

-- a digit, or a `_` before one
abbrev pub goes_on : List ℕ → Bool
goes_on [] = false
goes_on (b ∷ bs) = is_digit b || (b == 95 && begins_with is_digit bs)
