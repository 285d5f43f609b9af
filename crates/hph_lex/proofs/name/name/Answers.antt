use Rattle.std.proofs.Common.{ap, ◌∙◌}
use Rattle.hph_ast.specs.Words.{name_kind}
use Rattle.hph_lex.specs.Answers.{is_member}
use Rattle.hph_lex.proofs.Places.{name_place}
use Rattle.hph_lex.proofs.name.name.Goals as goal

pub returns : goal.returns
returns c = λ at.
    let kind = c.in_ok-kind.ensures ∙ ap (λ member. name_kind member c.split.result.0.now) c.is_member.ensures in
    name_place c.args.mode (is_member c.args.mode) at c.args.bytes.now _ _ _ c.requires c.split.ensures.front kind (c.token.ensures at)
