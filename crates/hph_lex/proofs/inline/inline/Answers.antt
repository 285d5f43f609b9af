use Rattle.std.proofs.Common.{◌≡◌, true, rules, arith, ap, sym, subst, ◌∙◌}
use Rattle.std.proofs.lemmas.Grind.{common_steps}
use Rattle.hph_ast.specs.declared.lexical.Mode.TheVariants.{Inline, Code}
use Rattle.hph_ast.specs.Lexical as r
use Rattle.hph_ast.specs.Lexical.{Comes, begins_code, begins_echo, skips}
use Rattle.hph_lex.proofs.inline.inline.Goals as goal

pub returns-then-begins_code : goal.returns-then-begins_code
returns-then-begins_code c = λ at.
    let is : begins_code c.args.bytes.now ≡ true = first_of (search rules, grind (arith, common_steps)) in
    subst (Comes at Inline c.args.bytes.now) (sym (c.skipped.ensures at ∙ ap (λ n. skips n Code) c.opening_length.ensures)) (r.opening is)

pub returns-then-begins_echo : goal.returns-then-begins_echo
returns-then-begins_echo c = λ at.
    let is : begins_echo c.args.bytes.now ≡ true = first_of (search rules, grind (arith, common_steps)) in
    subst (Comes at Inline c.args.bytes.now) (sym (c.token.ensures at)) (r.opening_echo is)
