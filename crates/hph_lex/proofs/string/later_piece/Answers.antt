use Rattle.std.proofs.Common.{subst}
use Rattle.hph_ast.specs.Lexical as r
use Rattle.hph_scan.specs.Pieces.{IsPiece}
use Rattle.hph_lex.proofs.Places.{later_place}
use Rattle.hph_lex.proofs.string.later_piece.Goals as goal

pub returns-in-Text : goal.returns-in-Text
returns-in-Text c = λ at.
    let text = subst (IsPiece c.args.bytes.now) c.in-Text.is c.in_ok-quoted.ensures in
    later_place at c.args.bytes.now _ c.in-Text.quoted text (c.next_piece.ensures at)

pub returns-in-BadEscape : goal.returns-in-BadEscape
returns-in-BadEscape c = λ at.
    let bad = subst (IsPiece c.args.bytes.now) c.in-BadEscape.is c.in_ok-quoted.ensures in r.bad_escape bad.is

pub returns-in-Unclosed : goal.returns-in-Unclosed
returns-in-Unclosed c = λ at.
    let none = subst (IsPiece c.args.bytes.now) c.in-Unclosed.is c.in_ok-quoted.ensures in r.unclosed none
