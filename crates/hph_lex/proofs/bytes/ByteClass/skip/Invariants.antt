use Rattle.std.proofs.Common.{◌≡◌, ◌≤◌, length}
use Rattle.hph_ast.specs.Bytes.{behind}
use Rattle.hph_lex.specs.Classes.{contains}
use Rattle.hph_lex.proofs.bytes.ByteClass.skip.Given as goal

abbrev pub invariant-loop-rest : goal.invariant-loop-rest
invariant-loop-rest l = record {
  same : behind (contains l.self) l.rest ≡ behind (contains l.self) l.bytes;
  within : length l.rest ≤ length l.bytes;
}

abbrev pub decreases-loop-rest : goal.decreases-loop-rest
decreases-loop-rest l = length l.rest
