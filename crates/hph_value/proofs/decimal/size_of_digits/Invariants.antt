use Rattle.std.proofs.Common.{◌≡◌, min, take}
use Rattle.hph_ast.specs.Strings.{value_of}
use Rattle.hph_value.specs.declared.decimal.TheConstants.{LARGE_SIZE}
use Rattle.hph_value.proofs.decimal.size_of_digits.Given as goal

abbrev pub invariant-loop-digit : goal.invariant-loop-digit
invariant-loop-digit l = l.size ≡ min (value_of 10 (take l.digit-index l.digits)) LARGE_SIZE
