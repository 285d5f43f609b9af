-- Strings that are numbers (PHP manual, Numeric strings): whole numbers of 64 bits, and numbers that PHP reads as floats.
use Rattle.std.specs.Prelude.{◌≡◌, ◌<◌, ◌++◌, true, false, IsTrue, ℕ, ℤ, pos, neg_ℤ, Bool, not, ◌&&◌, ◌||◌, List, [], length, drop}
use Rattle.std.specs.Prelude.{if◌then◌else◌, ◌==◌, nat_le, codes}
use Rattle.std.specs.List.{AllByRecursion}
use Rattle.std.proofs.Common.{refl}
use Rattle.hph_ast.specs.Bytes.{is_digit, begins_with, front, behind}
use Rattle.hph_ast.specs.Strings.{value_of}
use Rattle.hph_ast.specs.Numbers.{begins_exponent}
use Rattle.hph_num.specs.Range.{fits_i64}

-- What bytes are as a number: a whole number of 64 bits, a number with a fraction, an exponent or more digits, or none.
pub data Numeric : Type 0 where
  NoNumber : Numeric
  Whole : (z : ℤ) → Numeric
  FloatLike : Numeric

-- ---- the parts of a number that stands first, behind spaces: a sign or none, digits, a fraction or none, an exponent or none

-- space, tab, LF, VT, FF and CR
abbrev pub is_space : ℕ → Bool
is_space b = b == 32 || (nat_le 9 b && nat_le b 13)

abbrev pub is_sign : ℕ → Bool
is_sign b = b == 43 || b == 45

abbrev pub is_negative : List ℕ → Bool
is_negative bs = begins_with (λ b. b == 45) (behind is_space bs)

-- the bytes behind a sign, or all where there is none
abbrev pub behind_sign : List ℕ → List ℕ
behind_sign bs = if begins_with is_sign bs then drop 1 bs else bs

abbrev pub unsigned : List ℕ → List ℕ
unsigned bs = behind_sign (behind is_space bs)

abbrev pub has_digit : List ℕ → Bool
has_digit bs = begins_with is_digit (unsigned bs)

abbrev pub digits : List ℕ → List ℕ
digits bs = front is_digit (unsigned bs)

abbrev pub behind_digits : List ℕ → List ℕ
behind_digits bs = behind is_digit (unsigned bs)

-- a point, with a digit on one side of it at least: `1.5`, `1.` and `.5`
abbrev pub has_fraction : List ℕ → Bool
has_fraction bs =
    begins_with (λ b. b == 46) (behind_digits bs) && (has_digit bs || begins_with is_digit (drop 1 (behind_digits bs)))

abbrev pub behind_fraction : List ℕ → List ℕ
behind_fraction bs = if has_fraction bs then behind is_digit (drop 1 (behind_digits bs)) else behind_digits bs

-- `e` in either case, a sign or none, and digits
abbrev pub behind_exponent : List ℕ → List ℕ
behind_exponent bs = if begins_exponent bs then behind is_digit (behind_sign (drop 1 bs)) else bs

-- ---- numbers

abbrev pub whole : Bool → List ℕ → ℤ
whole negative ds = if negative then neg_ℤ (pos (value_of 10 ds)) else pos (value_of 10 ds)

-- digits past 64 bits are read as a float
abbrev pub within : ℤ → Numeric
within z = if fits_i64 z then Whole z else FloatLike

-- the longest number that stands first
abbrev pub leading_number : List ℕ → Numeric
leading_number bs =
    if not (has_digit bs || has_fraction bs) then NoNumber
    else (if has_fraction bs || begins_exponent (behind_fraction bs) then FloatLike else within (whole (is_negative bs) (digits bs)))

-- what the whole string is: behind its number stand spaces alone
abbrev pub numeric_of : List ℕ → Numeric
numeric_of bs = if length (behind is_space (behind_exponent (behind_fraction bs))) == 0 then leading_number bs else NoNumber

-- ---- the rule for whole numbers in its own words: spaces or none, a sign or none, digits within 64 bits, spaces or none.
-- It is a law that these strings, and no others, are whole numbers by `numeric_of`.

pub data Sign : Type 0 where
  no_sign : Sign
  plus : Sign
  minus : Sign

abbrev pub sign_bytes : Sign → List ℕ
sign_bytes no_sign = []
sign_bytes plus = codes "+"
sign_bytes minus = codes "-"

abbrev pub is_minus : Sign → Bool
is_minus no_sign = false
is_minus plus = false
is_minus minus = true

abbrev pub Are : (ℕ → Bool) → List ℕ → Type 0
Are test bytes = AllByRecursion (λ b. IsTrue (test b)) bytes

pub record IsWhole (bytes : List ℕ) (z : ℤ) : Type 0 where
  pub before : List ℕ
  pub sign : Sign
  pub ds : List ℕ
  pub after : List ℕ
  pub spelled : bytes ≡ before ++ (sign_bytes sign ++ (ds ++ after))
  pub spaces_before : Are is_space before
  pub are_digits : Are is_digit ds
  pub some_digit : 0 < length ds
  pub spaces_after : Are is_space after
  pub value : whole (is_minus sign) ds ≡ z
  pub fits : fits_i64 z ≡ true

-- ---- examples

framed : numeric_of (codes " \n+08\t") ≡ Whole (pos 8)
framed = refl

least : numeric_of (codes "-9223372036854775808") ≡ Whole (neg_ℤ (pos 9223372036854775808))
least = refl

past_the_greatest : numeric_of (codes "9223372036854775808") ≡ FloatLike
past_the_greatest = refl

fractions : (numeric_of (codes "1.") ≡ FloatLike) × ((numeric_of (codes "-.5e-3 ") ≡ FloatLike) × (numeric_of (codes ".") ≡ NoNumber))
fractions = (refl, (refl, refl))

exponents : (numeric_of (codes "1E5") ≡ FloatLike) × ((numeric_of (codes "1e") ≡ NoNumber) × (numeric_of (codes "e5") ≡ NoNumber))
exponents = (refl, (refl, refl))

leading : (leading_number (codes "\t12abc") ≡ Whole (pos 12)) × (leading_number (codes "1e5x") ≡ FloatLike)
leading = (refl, refl)

no_leading : (leading_number (codes "x1") ≡ NoNumber) × (leading_number (codes "- 1") ≡ NoNumber)
no_leading = (refl, refl)
