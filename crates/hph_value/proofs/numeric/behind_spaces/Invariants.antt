use Rattle.std.proofs.Common.{◌≡◌, length}
use Rattle.hph_ast.specs.Bytes.{behind}
use Rattle.hph_php.specs.NumericStrings.{is_space}
use Rattle.hph_value.proofs.numeric.behind_spaces.Given as goal

abbrev pub invariant-loop-rest : goal.invariant-loop-rest
invariant-loop-rest l = behind is_space l.rest ≡ behind is_space l.bytes

abbrev pub decreases-loop-rest : goal.decreases-loop-rest
decreases-loop-rest l = length l.rest
