use Rattle.std.proofs.Common.{codes, refl}
use Rattle.hph_ast.specs.declared.lexical.Start.TheVariants as s
use Rattle.hph_lex.specs.Answers.{is_member}
use Rattle.hph_lex.proofs.Starts.{starts}
use Rattle.hph_lex.proofs.Places.{close_tag_place, two_bytes}
use Rattle.hph_lex.proofs.code.close_tag.Goals as goal

pub after-requires : goal.after-requires
after-requires c = two_bytes (codes "?>") c.args.bytes.now (starts s.CloseTag c.args.bytes.now c.requires) refl

pub returns : goal.returns
returns c = λ at.
    close_tag_place c.args.mode
    (is_member c.args.mode) at c.args.bytes.now _ _ _ c.requires c.after.ensures c.newline_length-length.ensures (c.token.ensures at)
