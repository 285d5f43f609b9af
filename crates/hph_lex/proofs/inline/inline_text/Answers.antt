use Rattle.hph_ast.specs.Lexical.{ends_inline}
use Rattle.hph_lex.proofs.EndingLaws.{first_within}
use Rattle.hph_lex.proofs.Places.{text_place}
use Rattle.hph_lex.proofs.inline.inline_text.Goals as goal

pub split_at-requires : goal.split_at-requires
split_at-requires c = first_within ends_inline c.length-length.ensures

pub returns : goal.returns
returns c = λ at.
    text_place at c.args.bytes.now _ _ _ _ c.requires c.length-length.ensures c.split_at.ensures.front c.in_ok-text.ensures
    (c.token.ensures at)
