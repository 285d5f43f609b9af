use Rattle.std.proofs.Common.{sym, subst, ◌∙◌}
use Rattle.hph_ast.specs.Lexical as r
use Rattle.hph_ast.specs.Lexical.{InCode}
use Rattle.hph_lex.specs.Answers.{is_member}
use Rattle.hph_lex.proofs.place.in_code.Goals as goal

pub returns-in-Whitespace : goal.returns-in-Whitespace
returns-in-Whitespace c = λ at.
    subst (InCode c.args.mode (is_member c.args.mode) at c.args.bytes.now) (sym (c.skipped.ensures at)) (r.whitespace
    (sym c.start.ensures ∙ c.in-Whitespace.is))
