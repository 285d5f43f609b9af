use Rattle.std.proofs.Common.{◌≡◌, true, false, rules, arith, drop, sym, subst, codes, refl}
use Rattle.std.proofs.lemmas.Grind.{common_steps}
use Rattle.hph_ast.specs.declared.lexical.Mode.TheVariants.{Interpolation}
use Rattle.hph_ast.specs.Bytes.{begins_with, is_letter}
use Rattle.hph_ast.specs.Lexical as r
use Rattle.hph_ast.specs.Lexical.{Comes}
use Rattle.hph_lex.proofs.Places.{two_bytes}
use Rattle.hph_lex.proofs.interpolation.open_brace.Goals as goal

pub after-requires : goal.after-requires
after-requires c = two_bytes (codes "{$") c.args.bytes.now c.requires refl

pub returns-then-begins : goal.returns-then-begins
returns-then-begins c = λ at.
    let letter : begins_with is_letter (drop 2 c.args.bytes.now) ≡ true = first_of (search rules, grind (arith, common_steps)) in
    subst (Comes at Interpolation c.args.bytes.now) (sym (c.token.ensures at)) (r.interpolation (r.braces c.requires letter))

pub returns-else-begins : goal.returns-else-begins
returns-else-begins c = λ at.
    let no_letter : begins_with is_letter (drop 2 c.args.bytes.now) ≡ false = first_of (search rules, grind (arith, common_steps)) in
    r.interpolation (r.bad_braces c.requires no_letter)
