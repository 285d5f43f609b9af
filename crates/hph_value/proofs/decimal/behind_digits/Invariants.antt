use Rattle.std.proofs.Common.{◌≡◌, ◌≤◌, length}
use Rattle.hph_ast.specs.Bytes.{is_digit, behind}
use Rattle.hph_value.proofs.decimal.behind_digits.Given as goal

abbrev pub invariant-loop-rest : goal.invariant-loop-rest
invariant-loop-rest l = record {
  same : behind is_digit l.rest ≡ behind is_digit l.bytes;
  within : length l.rest ≤ length l.bytes;
}

abbrev pub decreases-loop-rest : goal.decreases-loop-rest
decreases-loop-rest l = length l.rest
