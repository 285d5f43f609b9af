use Rattle.std.proofs.Common.{◌∙◌}
use Rattle.hph_lex.proofs.ByteLaws.{starts_with-begins}
use Rattle.hph_lex.proofs.bytes.begins.Goals as goal

pub returns : goal.returns
returns c = c.starts_with.ensures.value ∙ starts_with-begins c.args.front.now c.args.bytes.now
