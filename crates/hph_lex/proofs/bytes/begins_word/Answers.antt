use Rattle.std.proofs.Common.{sym, ◌∙◌}
use Rattle.hph_lex.proofs.ByteLaws.{no_word_left}
use Rattle.hph_lex.proofs.bytes.begins_word.Goals as goal

pub returns-in_default : goal.returns-in_default
returns-in_default c =
    let at = c.loop-letter in
    sym (no_word_left c.args.word.now at.rest.now at.letter-index c.loop-letter-test.true c.in_default.len_below) ∙ at.invariant
