use Rattle.std.proofs.Common.{sym}
use Rattle.hph_ast.specs.Lexical as r
use Rattle.hph_lex.proofs.interpolation.interpolation.Goals as goal

pub returns-then-begins-2 : goal.returns-then-begins-2
returns-then-begins-2 c = λ at. r.interpolation (r.named (sym c.if-begins-2.ensures))
