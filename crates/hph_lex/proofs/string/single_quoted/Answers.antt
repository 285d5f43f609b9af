use Rattle.std.proofs.Common.{codes, refl, subst, sym}
use Rattle.hph_ast.specs.declared.lexical.Start.TheVariants as s
use Rattle.hph_ast.specs.Lexical as r
use Rattle.hph_ast.specs.Strings.{Single}
use Rattle.hph_scan.specs.Strings.{IsSingleQuoted}
use Rattle.hph_lex.specs.Answers.{is_member}
use Rattle.hph_lex.proofs.Starts.{starts}
use Rattle.hph_lex.proofs.Places.{single_place, first_byte}
use Rattle.hph_lex.proofs.string.single_quoted.Goals as goal

pub after-requires : goal.after-requires
after-requires c = first_byte (codes "'") c.args.bytes.now (starts s.SingleQuote c.args.bytes.now c.requires) refl

pub returns-in-Some : goal.returns-in-Some
returns-in-Some c = λ at.
    let bytes = c.args.bytes.now in
    let inside = c.after.result.now in
    let quoted = subst (IsSingleQuoted inside) c.in-Some.is c.in_ok-text.ensures in
    let one = first_byte (codes "'") bytes (starts s.SingleQuote bytes c.requires) refl in
    single_place c.args.mode (is_member c.args.mode) at bytes _ inside c.in-Some.field-0 c.requires c.after.ensures quoted one
    (c.token.ensures at)

pub returns-in-None : goal.returns-in-None
returns-in-None c = λ at.
    let none = subst (IsSingleQuoted c.after.result.now) c.in-None.is c.in_ok-text.ensures in
    r.unclosed_single c.requires (λ text rest d. none text rest (subst (λ inside. Single inside text rest) (sym c.after.ensures) d))
