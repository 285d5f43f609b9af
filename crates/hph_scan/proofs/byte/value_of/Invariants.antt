use Rattle.std.proofs.Common.{◌≡◌, min, take}
use Rattle.hph_ast.specs.Strings.{value_of}
use Rattle.hph_scan.specs.declared.byte.TheConstants.{LARGE_VALUE}
use Rattle.hph_scan.proofs.byte.value_of.Given as goal

abbrev pub invariant-loop-digit : goal.invariant-loop-digit
invariant-loop-digit l = l.value ≡ min (value_of l.base (take l.digit-index l.digits)) LARGE_VALUE
