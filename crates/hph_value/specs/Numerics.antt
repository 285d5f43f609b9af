-- The number of hph_php that a number in code is.
use Rattle.hph_php.specs.NumericStrings as php
use Rattle.hph_value.specs.declared.numeric.Numeric.{Numeric}
use Rattle.hph_value.specs.declared.numeric.Numeric.TheVariants.{NoNumber, Whole, FloatLike}

abbrev pub numeric_seen : Numeric → php.Numeric
numeric_seen NoNumber = php.NoNumber
numeric_seen (Whole z) = php.Whole z
numeric_seen FloatLike = php.FloatLike
