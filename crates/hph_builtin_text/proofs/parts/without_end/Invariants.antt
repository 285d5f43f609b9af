use Rattle.std.proofs.Common.{◌≡◌, length}
use Rattle.std.specs.Prelude.{reverse}
use Rattle.hph_ast.specs.Bytes.{behind}
use Rattle.hph_php.specs.StringFunctions.{is_trimmed}
use Rattle.hph_builtin_text.proofs.parts.without_end.Given as goal

abbrev pub invariant-end : goal.invariant-end
invariant-end l = behind is_trimmed (reverse l.rest) ≡ behind is_trimmed (reverse l.bytes)

abbrev pub decreases-end : goal.decreases-end
decreases-end l = length l.rest
