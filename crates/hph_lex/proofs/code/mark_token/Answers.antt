use Rattle.std.proofs.Common.{sym}
use Rattle.hph_ast.specs.Lexical as r
use Rattle.hph_lex.specs.Answers.{is_member}
use Rattle.hph_lex.proofs.Places.{mark_place}
use Rattle.hph_lex.proofs.code.mark_token.Goals as goal

pub returns-in-Some : goal.returns-in-Some
returns-in-Some c = λ at.
    mark_place c.args.mode (is_member c.args.mode) at c.args.bytes.now _ _ _ c.requires (sym c.in-Some.ensures) (c.from_table.ensures at)

pub returns-in-None : goal.returns-in-None
returns-in-None c = λ at. r.bad_byte c.requires (sym c.in-None.ensures)
