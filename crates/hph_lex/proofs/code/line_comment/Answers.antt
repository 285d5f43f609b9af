use Rattle.hph_lex.specs.Answers.{is_member}
use Rattle.hph_lex.proofs.Places.{line_comment_place}
use Rattle.hph_lex.proofs.code.line_comment.Goals as goal

pub returns : goal.returns
returns c = λ at.
    line_comment_place c.args.mode (is_member c.args.mode) at c.args.bytes.now _ _ c.requires c.length.ensures (c.skipped.ensures at)
