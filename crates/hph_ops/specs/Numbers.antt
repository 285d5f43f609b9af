-- An operator on the numbers of two operands, which are converted from left to right, with its number as the answer.
use Rattle.std.specs.Prelude.{ℤ, Result}
use Rattle.hph_php.specs.declared.fatal.Fatal.{Fatal}
use Rattle.hph_php.specs.Values.{Value}
use Rattle.hph_php.specs.Conversions.{and_then, number_of}

abbrev pub numbers : (ℤ → ℤ → Result ℤ Fatal) → Value → Value → Result ℤ Fatal
numbers op x y = and_then (number_of x) (λ a. and_then (number_of y) (λ b. op a b))
