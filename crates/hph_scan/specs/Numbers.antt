-- What a scan of a number gives: PHP manual, Integers and Floating point numbers.
use Rattle.std.specs.Prelude.{◌≡◌, ◌<◌, ◌≤◌, ℕ, ◌^◌, true, false, ◌⊎◌, List, length}
use Rattle.hph_ast.specs.Numbers.{is_float, IsNumber, numeral_length}
use Rattle.hph_scan.specs.declared.number.Number.{Number}
use Rattle.hph_scan.specs.declared.number.Number.TheVariants.{Whole, Float, Bad}

-- a whole number below 2 ^ 63, and its length
pub record IsWhole (bs : List ℕ) (value len : ℕ) : Type 0 where
  pub no_float : is_float bs ≡ false
  pub is : IsNumber bs value
  pub below : value < 2 ^ 63
  pub length_is : len ≡ numeral_length bs
  pub some : 0 < len
  pub within : len ≤ length bs

-- a whole number from 2 ^ 63 on
pub record IsLong (bs : List ℕ) : Type 0 where
  pub no_float : is_float bs ≡ false
  pub value : ℕ
  pub is : IsNumber bs value
  pub above : 2 ^ 63 ≤ value

-- no float, and no whole number either
pub record IsBad (bs : List ℕ) : Type 0 where
  pub no_float : is_float bs ≡ false
  pub none : (value : ℕ) → IsNumber bs value → ⊥

-- what the bytes begin with
abbrev pub IsScanned : List ℕ → Number → Type 0
IsScanned bs (Whole value len) = IsWhole bs value len
IsScanned bs Float = (is_float bs ≡ true) ⊎ IsLong bs
IsScanned bs Bad = IsBad bs
