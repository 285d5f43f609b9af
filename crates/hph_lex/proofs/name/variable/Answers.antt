use Rattle.std.proofs.Common.{arith, ◌+◌, ◌∙◌, ap, length}
use Rattle.hph_ast.specs.declared.lexical.Start.TheVariants as s
use Rattle.hph_lex.specs.Answers.{is_member}
use Rattle.hph_lex.proofs.Starts.{starts}
use Rattle.hph_lex.proofs.Places.{variable_place, dollar_byte}
use Rattle.hph_lex.proofs.name.variable.Goals as goal

pub after-requires : goal.after-requires
after-requires c = dollar_byte c.args.bytes.now (starts s.Variable c.args.bytes.now c.requires)

pub returns : goal.returns
returns c = λ at.
    let text_is = c.in_ok-from_slice.ensures in
    variable_place c.args.mode (is_member c.args.mode) at c.args.bytes.now _ c.after.result.now c.in_ok-from_slice.field-0
    (1 + length c.split.result.0.now)
    c.requires c.after.ensures (text_is ∙ c.split.ensures.front) (omega (arith, ap length text_is)) (c.token.ensures at)
