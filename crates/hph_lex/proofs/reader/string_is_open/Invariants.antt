use Rattle.std.proofs.Common.{◌≡◌, length}
use Rattle.hph_ast.specs.Tokens.{string_is_open}
use Rattle.hph_lex.proofs.reader.string_is_open.Given as goal

abbrev pub invariant-loop-outer : goal.invariant-loop-outer
invariant-loop-outer l = string_is_open l.here l.outer ≡ string_is_open l.fn.mode l.fn.outer

abbrev pub decreases-loop-outer : goal.decreases-loop-outer
decreases-loop-outer l = length l.outer
