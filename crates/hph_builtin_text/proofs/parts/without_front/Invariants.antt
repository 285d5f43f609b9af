use Rattle.std.proofs.Common.{◌≡◌, length}
use Rattle.hph_ast.specs.Bytes.{behind}
use Rattle.hph_php.specs.StringFunctions.{is_trimmed}
use Rattle.hph_builtin_text.proofs.parts.without_front.Given as goal

abbrev pub invariant-front : goal.invariant-front
invariant-front l = behind is_trimmed l.rest ≡ behind is_trimmed l.bytes

abbrev pub decreases-front : goal.decreases-front
decreases-front l = length l.rest
