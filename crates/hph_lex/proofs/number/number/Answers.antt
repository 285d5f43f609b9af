use Rattle.std.proofs.Common.{inl, inr}
use Rattle.hph_ast.specs.Lexical as r
use Rattle.hph_lex.specs.Answers.{is_member}
use Rattle.hph_lex.proofs.Places.{number_place}
use Rattle.hph_lex.proofs.number.number.Goals as goal

pub returns-in-Whole : goal.returns-in-Whole
returns-in-Whole c = λ at.
    number_place c.args.mode (is_member c.args.mode) at c.args.bytes.now _ _ _ c.requires c.in-Whole.ensures (c.token.ensures at)

pub returns-in-Float : goal.returns-in-Float
returns-in-Float c = λ at. elim c.in-Float.ensures [
  | inl float ↦ r.float c.requires float
  | inr long ↦ r.long_number c.requires long.no_float long.is long.above
]

pub returns-in-Bad : goal.returns-in-Bad
returns-in-Bad c = λ at. let bad = c.in-Bad.ensures in r.bad_number c.requires bad.no_float bad.none
