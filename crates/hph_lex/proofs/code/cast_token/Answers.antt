use Rattle.hph_lex.specs.Answers.{is_member}
use Rattle.hph_lex.proofs.Places.{cast_place, cast_is_there}
use Rattle.hph_lex.proofs.code.cast_token.Goals as goal

pub returns-in-Some : goal.returns-in-Some
returns-in-Some c = λ at.
    let found = c.in-Some.ensures in
    cast_place c.args.mode (is_member c.args.mode) at c.args.bytes.now _ _ _ c.requires found.is found.length_is (c.from_table.ensures at)

pub returns-in-None : goal.returns-in-None
returns-in-None c = λ at. absurd (cast_is_there c.args.bytes.now c.requires c.in-None.ensures)
