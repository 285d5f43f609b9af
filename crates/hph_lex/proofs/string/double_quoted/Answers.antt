use Rattle.std.proofs.Common.{◌∷◌, [], None, refl, subst, sym}
use Rattle.hph_ast.specs.Strings.{Piece}
use Rattle.hph_ast.specs.declared.lexical.Start.TheVariants as s
use Rattle.hph_ast.specs.Lexical as r
use Rattle.hph_scan.specs.Pieces.{IsPiece}
use Rattle.hph_lex.specs.Answers.{is_member}
use Rattle.hph_lex.proofs.Starts.{starts}
use Rattle.hph_lex.proofs.Places.{double_place, first_byte, quote_within}
use Rattle.hph_lex.proofs.string.double_quoted.Goals as goal

pub after-requires : goal.after-requires
after-requires c = first_byte (34 ∷ []) c.args.bytes.now (starts s.DoubleQuote c.args.bytes.now c.requires) refl

pub first_piece-requires : goal.first_piece-requires
first_piece-requires c =
    let text = subst (IsPiece c.after.result.now) c.in-Text.is c.in_ok-quoted.ensures in
    let one = first_byte (34 ∷ []) c.args.bytes.now (starts s.DoubleQuote c.args.bytes.now c.requires) refl in
    quote_within c.args.bytes.now c.after.result.now c.in-Text.quoted.length c.after.ensures one text.within

pub returns-in-Text : goal.returns-in-Text
returns-in-Text c = λ at.
    let text = subst (IsPiece c.after.result.now) c.in-Text.is c.in_ok-quoted.ensures in
    double_place c.args.mode
    (is_member c.args.mode) at c.args.bytes.now _ c.after.result.now c.in-Text.quoted c.requires c.after.ensures text
    (c.first_piece.ensures at)

pub returns-in-BadEscape : goal.returns-in-BadEscape
returns-in-BadEscape c = λ at.
    let bad = subst (IsPiece c.after.result.now) c.in-BadEscape.is c.in_ok-quoted.ensures in
    r.bad_escape c.requires (subst (λ inside. Piece inside None bad.rest) c.after.ensures bad.is)

pub returns-in-Unclosed : goal.returns-in-Unclosed
returns-in-Unclosed c = λ at.
    let none = subst (IsPiece c.after.result.now) c.in-Unclosed.is c.in_ok-quoted.ensures in
    r.unclosed_double c.requires (λ text rest d. none text rest (subst (λ inside. Piece inside text rest) (sym c.after.ensures) d))
